-- The number of each refusal.
use Rattle.std.specs.Prelude.{ℕ}
use Rattle.expand.specs.declared.fault.RunFault.{RunFault}
use Rattle.expand.specs.declared.fault.RunFault.TheVariants.{Misplaced, RunsFull, TooMany}

abbrev pub number : RunFault → ℕ
number Misplaced = 36
number RunsFull = 37
number TooMany = 38
