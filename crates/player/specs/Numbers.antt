-- The number of a refusal on the way from a manifest's bytes to its timeline.
use Rattle.std.specs.Prelude.{ℕ}
use Rattle.reader.specs.Numbers.{number as readNumber}
use Rattle.resolve.specs.Faults.{number as resolveNumber}
use Rattle.player.specs.declared.fault.OpenFault.{OpenFault}
use Rattle.player.specs.declared.fault.OpenFault.TheVariants.{Read, Resolve}

abbrev pub number : OpenFault → ℕ
number (Read e) = readNumber e.refusal
number (Resolve e) = resolveNumber e
