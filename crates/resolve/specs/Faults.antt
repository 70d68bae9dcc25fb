-- The number of each refusal.
use Rattle.std.specs.Prelude.{ℕ}
use Rattle.expand.specs.Faults.{number as runNumber}
use Rattle.resolve.specs.declared.fault.ResolveFault.{ResolveFault}
use Rattle.resolve.specs.declared.fault.ResolveFault.TheVariants.{RuleBroken, NotStatic, NotFound, Unreadable, NoLength, BothOrNeither, Runs, NoAddress}

abbrev pub number : ResolveFault → ℕ
number RuleBroken = 30
number NotStatic = 31
number NotFound = 32
number Unreadable = 33
number NoLength = 34
number BothOrNeither = 35
number (Runs e) = runNumber e
number NoAddress = 39
