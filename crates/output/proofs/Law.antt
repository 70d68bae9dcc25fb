-- A padded number is the number in decimal at the width, and the only text that is.
use Rattle.std.proofs.Common.{◌≡◌, ℕ, zero, suc, ◌+◌, ◌-◌, ◌*◌, ◌/◌, ◌%◌, ◌^◌, ◌<◌, ◌≤◌, max, List, [], ◌∷◌, ◌++◌, length, get_or, take, sym, refl, ap, ◌∙◌, subst, pow-suc, arith}
use native.Mathlib.Nat.{pow-le-pow_right}
use Rattle.std.specs.List.{AllByRecursion}
use Rattle.std.proofs.ByRecursion.{All-push, All-get_or, All-take}
use Rattle.std.proofs.lemmas.List.{get_or_append_left, length_push, get_or-take, length-take-le, nil_from_length, take_all, take_more}
use Rattle.std.proofs.lemmas.Bool.Decides.{nat_tests}
use Rattle.output.specs.Digits.{last_digits, powers_up_to, digit_count, width_of, padded, Digit, value_after, Decimal}

ten_le : (j k : ℕ) → j ≤ k → 10 ^ j ≤ 10 ^ k
ten_le j k h = pow-le-pow_right {n = 10} (omega arith) h

-- n lies between the powers p and p + 1 of ten, of which the first is not asked at p = 0
abbrev Between : ℕ → ℕ → Type 0
Between p n = (n < 10 ^ suc p) × (0 < p → 10 ^ p ≤ n)

-- only one power is below n so that the next is above
same_power : (p k n : ℕ) → Between p n → Between k n → p ≡ k
same_power p k n a b = grind (arith, ten_le (suc p) k, ten_le (suc k) p)

length-last_digits : (k n : ℕ) → length (last_digits k n) ≡ k
length-last_digits zero n = refl
length-last_digits (suc k) n = omega (arith, length_push (last_digits k (n / 10)) (48 + n % 10), length-last_digits k (n / 10))

all_digits : (k n : ℕ) → AllByRecursion Digit (last_digits k n)
all_digits zero n = tt
all_digits (suc k) n = All-push Digit (last_digits k (n / 10)) (48 + n % 10) (all_digits k (n / 10)) (omega arith, omega arith)

-- one digit more at the end
value_push : (n : ℕ) (text : List ℕ) (byte : ℕ) → value_after n (text ++ (byte ∷ [])) ≡ value_after n text * 10 + (byte - 48)
value_push n [] byte = refl
value_push n (x ∷ text) byte = value_push (n * 10 + (x - 48)) text byte

value_last_digits : (k n : ℕ) → n < 10 ^ k → value_after 0 (last_digits k n) ≡ n
value_last_digits zero n small = omega arith
value_last_digits (suc k) n small =
    let p : 10 ^ suc k ≡ 10 ^ k * 10 = pow-suc 10 k in
    let front : value_after 0 (last_digits k (n / 10)) ≡ n / 10 = value_last_digits k (n / 10) (omega arith) in
    value_push 0 (last_digits k (n / 10)) (48 + n % 10) ∙ omega arith

-- the first of as many digits as n needs is not 0
first_last_digits : (k n : ℕ) → 10 ^ k ≤ n → n < 10 ^ suc k → 48 < get_or (last_digits (suc k) n) 0 0
first_last_digits zero n some small = omega arith
first_last_digits (suc k) n some small =
    let p : 10 ^ suc k ≡ 10 ^ k * 10 = pow-suc 10 k in
    let q : 10 ^ suc (suc k) ≡ 10 ^ suc k * 10 = pow-suc 10 (suc k) in
    let long : length (last_digits (suc k) (n / 10)) ≡ suc k = length-last_digits (suc k) (n / 10) in
    let first : 48 < get_or (last_digits (suc k) (n / 10)) 0 0 = first_last_digits k (n / 10) (omega arith) (omega arith) in
    let same : get_or (last_digits (suc (suc k)) n) 0 0 ≡ get_or (last_digits (suc k) (n / 10)) 0 0 = get_or_append_left (last_digits (suc k) (n / 10)) ((48 + n % 10) ∷ []) 0 0 (omega arith) in
    omega arith

-- every power up to one that is at most n counts
powers_all : (k n : ℕ) → 10 ^ k ≤ n → powers_up_to k n ≡ k
powers_all zero n h = refl
powers_all (suc k) n h =
    let p : 10 ^ suc k ≡ 10 ^ k * 10 = pow-suc 10 k in
    let front : powers_up_to k n ≡ k = powers_all k n (omega arith) in
    grind (arith, nat_tests)

-- n lies between the powers that its count of digits names
powers_between : (k n : ℕ) → n < 10 ^ suc k → Between (powers_up_to k n) n
powers_between zero n h = (h, λ p. absurd (omega arith))
powers_between (suc k) n h =
    let all : 10 ^ suc k ≤ n → powers_up_to (suc k) n ≡ suc k = powers_all (suc k) n in
    let before : n < 10 ^ suc k → Between (powers_up_to k n) n = powers_between k n in
    grind (arith, nat_tests)

-- a number has a digit more than its logarithm says
pub log_count : (k n : ℕ) → n < 10 ^ 20 → 10 ^ k ≤ max n 1 → max n 1 < 10 * 10 ^ k → k + 1 ≡ digit_count n
log_count k n small low high =
    let p : 10 ^ suc k ≡ 10 ^ k * 10 = pow-suc 10 k in
    let one : 0 < k → 10 ^ k ≤ n = λ some. omega (arith, ten_le 1 k some) in
    let same : powers_up_to 19 n ≡ k = same_power (powers_up_to 19 n) k n (powers_between 19 n small) (omega arith, one) in
    omega arith

-- a padded number is the number in decimal at the width
pub padded_decimal : (width n : ℕ) → n < 10 ^ 20 → Decimal width n (padded width n)
padded_decimal width n small =
    let p = powers_up_to 19 n in
    let k = max (digit_count n) (width_of width) in
    let between = powers_between 19 n small in
    let long : length (last_digits k n) ≡ k = length-last_digits k n in
    let more : 10 ^ suc p ≤ 10 ^ k = ten_le (suc p) k (omega arith) in
    record {
      digits = all_digits k n;
      value = value_last_digits k n (omega (arith, between.0));
      wide = omega arith;
      tight = λ longer.
          let same : k ≡ suc p = omega arith in
          subst (λ m. 48 < get_or (last_digits m n) 0 0) (sym same) (first_last_digits p n (between.1 (omega arith)) between.0);
    }

-- a text that is not empty is its front and its last byte
split_last : (k : ℕ) (text : List ℕ) → length text ≡ suc k → text ≡ take k text ++ (get_or text k 0 ∷ [])
split_last k text long = sym (take_all (k + 1) text (omega arith)) ∙ take_more text k 0 (omega arith)

value_last : (k : ℕ) (text : List ℕ) → length text ≡ suc k → value_after 0 text ≡ value_after 0 (take k text) * 10 + (get_or text k 0 - 48)
value_last k text long = ap (value_after 0) (split_last k text long) ∙ value_push 0 (take k text) (get_or text k 0)

-- digits are the last digits of the number that they write, which is below the power of their count
digits_back : (k : ℕ) (text : List ℕ) → length text ≡ k → AllByRecursion Digit text → (text ≡ last_digits k (value_after 0 text)) × (value_after 0 text < 10 ^ k)
digits_back zero text long all =
    let none : text ≡ [] = nil_from_length text long in
    (none, subst (λ t. value_after 0 t < 10 ^ 0) (sym none) (omega arith))
digits_back (suc k) text long all =
    let front = take k text in
    let v = value_after 0 text in
    let p : 10 ^ suc k ≡ 10 ^ k * 10 = pow-suc 10 k in
    let last : Digit (get_or text k 0) = All-get_or Digit text k 0 (omega arith) all in
    let value : v ≡ value_after 0 front * 10 + (get_or text k 0 - 48) = value_last k text long in
    let before = digits_back k front (length-take-le k text (omega arith)) (All-take Digit k text all) in
    let tens : value_after 0 front ≡ v / 10 = omega (arith, last.0, last.1) in
    let ones : get_or text k 0 ≡ 48 + v % 10 = omega (arith, last.0, last.1) in (
      cc (split_last k text long, before.0),
      omega (arith, before.1, last.1),
    )

-- digits that do not begin with 0 write at least the power of the digits behind the first
value_from : (k : ℕ) (text : List ℕ) → length text ≡ suc k → 48 < get_or text 0 0 → 10 ^ k ≤ value_after 0 text
value_from zero text long first = omega (arith, value_last 0 text long)
value_from (suc k) text long first =
    let p : 10 ^ suc k ≡ 10 ^ k * 10 = pow-suc 10 k in
    let same : get_or (take (suc k) text) 0 0 ≡ get_or text 0 0 = get_or-take (suc k) text 0 0 (omega arith) in
    let front : 10 ^ k ≤ value_after 0 (take (suc k) text) = value_from k (take (suc k) text) (length-take-le (suc k) text (omega arith)) (omega arith) in
    omega (arith, value_last (suc k) text long)

-- how many digits a text has: l of them, at least the width w and more only if the first is not 0, for a number of p + 1 digits
count_is : (n p w l : ℕ) → 0 < w → w ≤ l → n < 10 ^ l → Between p n → ((j : ℕ) → l ≡ suc j → w < l → 10 ^ j ≤ n) → l ≡ max (1 + p) w
count_is n p w zero some wide below between first = absurd (omega arith)
count_is n p w (suc j) some wide below between first =
    let low : w < suc j → 10 ^ j ≤ n = first j refl in
    grind (arith, ten_le (suc p) j, ten_le (suc j) p)

-- no other text is the number in decimal at the width
pub decimal_padded : (width n : ℕ) (text : List ℕ) → n < 10 ^ 20 → Decimal width n text → text ≡ padded width n
decimal_padded width n text small d =
    let between = powers_between 19 n small in
    let back = digits_back (length text) text refl d.digits in
    let at : length text ≡ max (digit_count n) (width_of width) =
    count_is n (powers_up_to 19 n) (width_of width) (length text) (omega arith) d.wide
    (rw d.value at back.1) between
    (λ j e longer. omega (arith, value_from j text e (d.tight longer), d.value)) in
    cc (back.0, d.value)
