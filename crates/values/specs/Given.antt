-- Values that may be absent, and whether all that are asked for can be read.
use Rattle.std.specs.Prelude.{◌≡◌, ℕ, Bool, true, false, not, ◌||◌, List, [], ◌∷◌, is_ok, Some, None, Ok, Err, Option, Result, MatchResult}
use Rattle.std.specs.Option.{option_map, option_flatten, option_transpose}
use Rattle.values.specs.declared.ValueFault.{ValueFault}
use Rattle.values.specs.Whole.{whole_in}
use Rattle.values.specs.Repeat.{repeat_of}
use Rattle.values.specs.Duration.{duration_of}

-- what a text that may be absent is read as
abbrev pub given : {X : Type 0} → (List ℕ → Result X ValueFault) → Option (List ℕ) → Result (Option X) ValueFault
given read text = option_transpose (option_map read text)

-- the value that is answered, if any
abbrev pub answered : {X : Type 0} → Result X ValueFault → Option X
answered (Ok x) = Some x
answered (Err e) = None

-- the value that a text is, none where there is no text or it cannot be read
abbrev pub present : {X : Type 0} → (List ℕ → Result X ValueFault) → Option (List ℕ) → Option X
present read text = option_flatten (option_map (λ t. answered (read t)) text)

-- what a value should be: a whole number in a range, a repeat count, a duration
pub data Kind : Type 0 where
  whole : ℕ → ℕ → Kind
  repeat : Kind
  duration : Kind

-- a value that is asked for: what it should be, the text that is there, and whether one must be there
pub record Asked : Type 0 where
  pub kind : Kind
  pub text : Option (List ℕ)
  pub needed : Bool

abbrev pub readable : Kind → List ℕ → Bool
readable (whole low high) t = is_ok (whole_in low high t)
readable repeat t = is_ok (repeat_of t)
readable duration t = is_ok (duration_of t)

-- whether a text is refused, or is absent and must be there
abbrev pub refused_as : Kind → Bool → Option (List ℕ) → Bool
refused_as kind needed None = needed
refused_as kind needed (Some t) = not (readable kind t)

abbrev pub unread : Asked → Bool
unread a = refused_as a.kind a.needed a.text

-- whether one of the values cannot be read
abbrev pub some_unread : List Asked → Bool
some_unread [] = false
some_unread (a ∷ as') = unread a || some_unread as'

-- the answer says whether all that is asked can be read
abbrev pub ReadsAll : {X : Type 0} → List Asked → Result X ValueFault → Type 0
ReadsAll as' answer = MatchResult answer (λ _. some_unread as' ≡ false) (λ _. some_unread as' ≡ true)
