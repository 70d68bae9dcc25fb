-- How a number is written in decimal.
use Rattle.std.specs.Prelude.{◌≡◌, ℕ, zero, suc, ◌+◌, ◌-◌, ◌*◌, ◌/◌, ◌%◌, ◌^◌, ◌<◌, ◌≤◌, min, max, cond, List, [], ◌∷◌, ◌++◌, length, nat_le, slice_index}
use Rattle.std.specs.List.{AllByRecursion}

-- the last k decimal digits of n, as bytes, zeros on the left
abbrev pub last_digits : ℕ → ℕ → List ℕ
last_digits zero n = []
last_digits (suc k) n = last_digits k (n / 10) ++ ((48 + n % 10) ∷ [])

-- how many of 10, 100, .. 10 ^ k are at most n
abbrev pub powers_up_to : ℕ → ℕ → ℕ
powers_up_to zero n = 0
powers_up_to (suc k) n = powers_up_to k n + cond (nat_le (10 ^ suc k) n) 1 0

-- how many digits n has, which is below 10 ^ 20
abbrev pub digit_count : ℕ → ℕ
digit_count n = 1 + powers_up_to 19 n

-- the width that counts: below 1 it is 1, above 20 it is 20
abbrev pub width_of : ℕ → ℕ
width_of width = max (min width 20) 1

-- n padded with zeros on the left to the width, and never shortened
abbrev pub padded : ℕ → ℕ → List ℕ
padded width n = last_digits (max (digit_count n) (width_of width)) n

-- a byte is a decimal digit
abbrev pub Digit : ℕ → Type 0
Digit byte = (48 ≤ byte) × (byte ≤ 57)

-- the number that digits write, read after the digits of n
abbrev pub value_after : ℕ → List ℕ → ℕ
value_after n [] = n
value_after n (byte ∷ rest) = value_after (n * 10 + (byte - 48)) rest

-- the text is n in decimal, at least as long as the width, and longer only where its first digit needs the place
pub record Decimal (width n : ℕ) (text : List ℕ) : Type 0 where
  pub digits : AllByRecursion Digit text
  pub value : value_after 0 text ≡ n
  pub wide : width_of width ≤ length text
  pub tight : width_of width < length text → 48 < slice_index text 0
