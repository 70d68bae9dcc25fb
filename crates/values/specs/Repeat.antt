-- Repeat counts: -1, or a whole number.
use Rattle.std.specs.Prelude.{◌≡◌, ℕ, ◌≤◌, cond, ◌⊎◌, List, ℤ, pos, negsuc, Ok, Err, codes, Result}
use Rattle.std.specs.Str.{bytes_eq}
use Rattle.values.specs.declared.ValueFault.{ValueFault}
use Rattle.values.specs.Whole.{Whole, whole_in}

-- the text is -1 and so is z, or it is a whole number up to 2147483646 and z is that number
abbrev pub Repeat : List ℕ → ℤ → Type 0
Repeat text z = ((text ≡ codes "-1") × (z ≡ negsuc 0)) ⊎ ((n : ℕ) × Whole text n × (n ≤ 2147483646) × (z ≡ pos n))

-- a whole number as a signed number
abbrev pub signed : Result ℕ ValueFault → Result ℤ ValueFault
signed (Ok n) = Ok (pos n)
signed (Err fault) = Err fault

-- the repeat count that the text is, or else the fault
abbrev pub repeat_of : List ℕ → Result ℤ ValueFault
repeat_of text = cond (bytes_eq text (codes "-1")) (Ok (negsuc 0)) (signed (whole_in 0 2147483646 text))
