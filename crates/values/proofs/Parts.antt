-- The seconds of a duration that have decimals.
use Rattle.std.proofs.Common.{◌≡◌, ℕ, ◌+◌, ◌-◌, ◌*◌, ◌^◌, ◌<◌, ◌≤◌, List, length, drop, sym, ap, ◌∙◌, mul-le-mul, arith, length-take}
use native.Mathlib.Nat.{pow-le-pow_right}
use Rattle.std.specs.List.{prefix_len}
use Rattle.std.proofs.lemmas.List.{drop-drop}
use Rattle.std.proofs.lemmas.Bool.Decides.{nat_tests}
use Rattle.values.specs.Whole.{digit}
use Rattle.values.specs.Fields.{front, field_len, field_num, IsField, behind, seconds_len, seconds_num, seconds_millis, AreSeconds}
use Rattle.values.proofs.Numbers.{front_digits, decimal_lt}
use Rattle.values.proofs.Ways.{has_decimals_lem, by_point}

-- a field of at most three digits is below a thousand
field_small : (unit : ℕ) (xs : List ℕ) → field_len unit xs ≤ 4 → field_num unit xs ≤ 999
field_small unit xs h =
    let s : length (front xs) ≤ prefix_len digit xs = omega (arith, length-take (prefix_len digit xs) xs) in
    let d = decimal_lt (front xs) (front_digits xs) in
    let p : length (front xs) ≤ 3 → 10 ^ length (front xs) ≤ 10 ^ 3 = pow-le-pow_right {n = 10} (omega arith) in
    grind (arith, nat_tests)

field_long : (unit : ℕ) (xs : List ℕ) → 0 < field_len unit xs → 1 < field_len unit xs
field_long unit xs h = grind (arith, nat_tests)

-- digits and a point, and behind it one to three digits and S
pub pointed : (xs more rest : List ℕ) (n d len m : ℕ) → field_len 83 xs ≡ 0 → IsField 46 xs n more → IsField 83 more d rest → len ≡ length more - length rest → len ≤ 4 → m ≡ d * 10 ^ (4 - len) → AreSeconds xs (n * 1000 + m) rest × (seconds_millis xs ≤ 99900)
pointed xs more rest n d len m none point decimals is short e =
    let l : field_len 83 more ≡ field_len 83 (behind xs) = ap (field_len 83) point.2 in
    let num : field_num 83 more ≡ field_num 83 (behind xs) = ap (field_num 83) point.2 in
    let few : len ≡ field_len 83 (behind xs) = omega arith in
    let small = field_small 83 (behind xs) (omega arith) in
    let has = has_decimals_lem xs point.0 (omega arith) (omega arith) in
    let long : seconds_len xs ≡ field_len 46 xs + field_len 83 (behind xs) = by_point xs _ _ none has in
    let whole : seconds_num xs ≡ field_num 46 xs = by_point xs _ _ none has in
    let millis : seconds_millis xs ≡ field_num 83 (behind xs) * 10 ^ (4 - field_len 83 (behind xs)) = by_point xs _ _ none has in
    let all : d ≡ field_num 83 (behind xs) = omega arith in
    let same : m ≡ seconds_millis xs = e ∙ ap (λ x. d * 10 ^ (4 - x)) few ∙ ap (λ x. x * 10 ^ (4 - field_len 83 (behind xs))) all ∙ sym millis in
    let p : 10 ^ (4 - len) ≤ 10 ^ 2 = pow-le-pow_right {n = 10} (omega arith) {i = 4 - len} {j = 2} (omega (arith, field_long 83 (behind xs) (omega arith))) in
    let bound : m ≤ 99900 = omega (arith, mul-le-mul {n₁ = d} {m₁ = 10 ^ (4 - len)} {n₂ = 999} {m₂ = 100} (omega arith) p) in
    let on : drop (field_len 83 more) more ≡ drop (field_len 83 (behind xs)) (behind xs) = ap (λ l. drop (field_len 83 l) l) point.2 in (
      (
        omega arith,
        omega arith,
        decimals.2 ∙ on ∙ drop-drop (field_len 83 (behind xs)) (field_len 46 xs) xs ∙ ap (λ k. drop k xs) (sym long),
        omega arith,
      ),
      omega arith,
    )
