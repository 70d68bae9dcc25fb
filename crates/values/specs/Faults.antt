-- The numbers of the faults.
use Rattle.std.specs.Prelude.{ℕ}
use Rattle.values.specs.declared.ValueFault.{ValueFault}
use Rattle.values.specs.declared.ValueFault.TheVariants.{NoWholeNumber, NoDuration}

-- the number that a fault is reported by
abbrev pub number : ValueFault → ℕ
number NoWholeNumber = 20
number NoDuration = 21
