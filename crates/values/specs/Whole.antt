-- Whole numbers, written in decimal digits.
use Rattle.std.specs.Prelude.{◌≡◌, ℕ, ◌+◌, ◌-◌, ◌*◌, ◌^◌, ◌<◌, Bool, true, cond, ◌&&◌, List, [], ◌∷◌, length, Ok, Err, Result, nat_le, nat_lt}
use Rattle.values.specs.declared.ValueFault.{ValueFault}
use Rattle.values.specs.declared.ValueFault.TheVariants.{NoWholeNumber}

-- whether a byte is one of 0 to 9
abbrev pub digit : ℕ → Bool
digit b = nat_le 48 b && nat_le b 57

-- whether every byte is a digit
abbrev pub digits : List ℕ → Bool
digits [] = true
digits (b ∷ bs) = digit b && digits bs

-- the value of digits as a decimal number: the weight of each is ten to the power of how many follow it
abbrev pub decimal : List ℕ → ℕ
decimal [] = 0
decimal (b ∷ bs) = (b - 48) * 10 ^ length bs + decimal bs

-- the text is at least one digit, and n is their value
pub record Whole (text : List ℕ) (n : ℕ) : Type 0 where
  pub some : 0 < length text
  pub all : digits text ≡ true
  pub value : n ≡ decimal text

-- whether the text is a whole number from low to high
abbrev pub is_whole_in : ℕ → ℕ → List ℕ → Bool
is_whole_in low high text = nat_lt 0 (length text) && (digits text && (nat_le low (decimal text) && nat_le (decimal text) high))

-- the whole number from low to high that the text is, or else the fault
abbrev pub whole_in : ℕ → ℕ → List ℕ → Result ℕ ValueFault
whole_in low high text = cond (is_whole_in low high text) (Ok (decimal text)) (Err NoWholeNumber)
