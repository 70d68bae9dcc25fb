-- Reading a whole number, and what a whole number is.
use Rattle.std.proofs.Common.{◌≡◌, ℕ, ◌≤◌, List, Ok, arith}
use Rattle.std.proofs.lemmas.Bool.Decides.{nat_tests}
use Rattle.values.specs.Whole.{Whole, whole_in}

pub complete : (low high : ℕ) (text : List ℕ) (n : ℕ) → Whole text n → low ≤ n → n ≤ high → whole_in low high text ≡ Ok n
complete low high text n w l h = grind (arith, nat_tests)
