-- Digits, and the number that they write.
use Rattle.std.proofs.Common.{◌≡◌, ℕ, suc, ◌+◌, ◌-◌, ◌*◌, ◌^◌, ◌<◌, ◌≤◌, Bool, true, false, cond, ◌&&◌, List, [], ◌∷◌, ◌++◌, length, length-append, take, sym, refl, ap, ◌∙◌, mul-le-mul_right, mul_assoc, one-add, arith}
use native.Mathlib.Nat.{pow-suc, pow-succ'}
use Rattle.std.specs.List.{prefix_len}
use Rattle.std.proofs.lemmas.Bool.Decides.{nat_tests}
use Rattle.values.specs.Whole.{digit, digits, decimal}
use Rattle.values.specs.Fields.{front}

pub digits_head : (b : ℕ) (bs : List ℕ) → digits (b ∷ bs) ≡ true → (48 ≤ b) × (b ≤ 57) × (digits bs ≡ true)
digits_head b bs h = grind (arith, nat_tests)

pub front_digits : (xs : List ℕ) → digits (front xs) ≡ true
front_digits [] = refl
front_digits (x ∷ xs) = go (digit x) refl (front_digits xs)
  where
    go : (t : Bool) → digit x ≡ t → digits (front xs) ≡ true → digits (take (cond t (1 + prefix_len digit xs) 0) (x ∷ xs)) ≡ true
    go true e ih = ap (λ k. digits (take k (x ∷ xs))) (one-add (prefix_len digit xs)) ∙ ap (λ t. t && digits (front xs)) e ∙ ih
    go false e ih = refl

pub all_digits : (xs : List ℕ) → length xs ≤ prefix_len digit xs → digits xs ≡ true
all_digits [] h = refl
all_digits (x ∷ xs) h = let ih = all_digits xs in grind (arith, nat_tests)

pub not_digits : (xs : List ℕ) → prefix_len digit xs < length xs → digits xs ≡ false
not_digits [] h = absurd (omega arith)
not_digits (x ∷ xs) h = let ih = not_digits xs in grind (arith, nat_tests)

-- k digits are below ten to the power k
pub decimal_lt : (ds : List ℕ) → digits ds ≡ true → decimal ds + 1 ≤ 10 ^ length ds
decimal_lt [] h = omega arith
decimal_lt (d ∷ ds) h =
    let f = digits_head d ds h in
    let ih = decimal_lt ds f.2 in
    let a : (d - 48) * 10 ^ length ds ≤ 9 * 10 ^ length ds = mul-le-mul_right (10 ^ length ds) (omega arith) in
    omega (arith, pow-succ' 10 (length ds))

-- the number with one digit more behind it
pub decimal_push : (ds : List ℕ) (d : ℕ) → decimal (ds ++ (d ∷ [])) ≡ decimal ds * 10 + (d - 48)
decimal_push [] d = omega arith
decimal_push (b ∷ ds) d =
    let l : length (ds ++ (d ∷ [])) ≡ suc (length ds) = omega (arith, length-append ds (d ∷ [])) in
    let p : 10 ^ length (ds ++ (d ∷ [])) ≡ 10 ^ length ds * 10 = ap (λ n. 10 ^ n) l ∙ pow-suc 10 (length ds) in
    let q : (b - 48) * 10 ^ length (ds ++ (d ∷ [])) ≡ (b - 48) * 10 ^ length ds * 10 = ap (λ n. (b - 48) * n) p ∙ sym (mul_assoc (b - 48) (10 ^ length ds) 10) in
    omega (arith, decimal_push ds d)
