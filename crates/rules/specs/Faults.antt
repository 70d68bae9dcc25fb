-- The refusal of the checker by its number.
use Rattle.std.specs.Prelude.{ℕ}
use Rattle.rules.specs.declared.rule.CheckFault.{CheckFault}
use Rattle.rules.specs.declared.rule.CheckFault.TheVariants.{FindingsFull}

abbrev pub fault_number : CheckFault → ℕ
fault_number FindingsFull = 18
