-- The ways to write seconds: whole, with decimals, or not at all.
use Rattle.std.proofs.Common.{◌≡◌, ℕ, ◌<◌, ◌≤◌, true, List, arith}
use Rattle.std.proofs.lemmas.Bool.Decides.{nat_tests}
use Rattle.values.specs.Fields.{field_len, behind, has_decimals, by_seconds}

module _ (xs : List ℕ) where
  pub has_decimals_lem : 0 < field_len 46 xs → 0 < field_len 83 (behind xs) → field_len 83 (behind xs) ≤ 4 → has_decimals xs ≡ true
  has_decimals_lem p b l = grind (arith, nat_tests)

  pub decimals_parts : has_decimals xs ≡ true → (0 < field_len 46 xs) × (0 < field_len 83 (behind xs)) × (field_len 83 (behind xs) ≤ 4)
  decimals_parts h = (grind (arith, nat_tests), grind (arith, nat_tests), grind (arith, nat_tests))

  pub by_whole : (x y : ℕ) → 0 < field_len 83 xs → by_seconds xs x y ≡ x
  by_whole x y h = grind (arith, nat_tests)

  pub by_point : (x y : ℕ) → field_len 83 xs ≡ 0 → has_decimals xs ≡ true → by_seconds xs x y ≡ y
  by_point x y none h = grind (arith, nat_tests)
