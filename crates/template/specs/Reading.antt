-- A template read from left to right.
use Rattle.std.specs.Prelude.{ℕ, zero, suc, pred, ◌+◌, ◌-◌, Bool, true, false, cond, ◌&&◌, List, [], ◌∷◌, ◌++◌, length, drop, Some, None, Ok, Err, codes, Option, Result, ◌==◌, nat_le, slice_index}
use Rattle.std.specs.List.{list_any}
use Rattle.std.specs.Option.{option_or}
use Rattle.template.specs.declared.Identifier.{Identifier}
use Rattle.template.specs.declared.Identifier.TheVariants.{RepresentationId, Number, Bandwidth, Time}
use Rattle.template.specs.declared.Piece.{Piece}
use Rattle.template.specs.declared.Piece.TheVariants.{Byte, Dollar, Value}
use Rattle.template.specs.declared.Broken.{Broken}
use Rattle.template.specs.Pieces.{name_of, width_text, tag_text, text_of}

-- what there is, if the test holds
abbrev pub when : {A : Type 0} → Bool → Option A → Option A
when true o = o
when false o = None

-- what comes of what there is
abbrev pub and_then : {A B : Type 0} → Option A → (A → Option B) → Option B
and_then None f = None
and_then (Some x) f = f x

-- what there is, with the length of its text
abbrev pub measured : {A : Type 0} → (A → List ℕ) → Option A → Option (A × ℕ)
measured text None = None
measured text (Some x) = Some (x, length (text x))

-- whether a text begins with the word
abbrev pub begins : List ℕ → List ℕ → Bool
begins [] t = true
begins (w ∷ ws) [] = false
begins (w ∷ ws) (b ∷ bs) = b == w && begins ws bs

-- whether a byte is a decimal digit
abbrev pub is_digit : ℕ → Bool
is_digit b = nat_le 48 b && nat_le b 57

-- the width from 1 to 20 that two bytes begin with
abbrev pub width_of : ℕ → ℕ → Option ℕ
width_of a b =
    cond (a == 49 && is_digit b) (Some (10 + (b - 48)))
    (cond (a == 50 && b == 48) (Some 20)
    (when (nat_le 49 a && nat_le a 57) (Some (a - 48))))

-- what stands behind an identifier's name: the tag, if any, and `$`
abbrev pub closing_text : Option ℕ → List ℕ
closing_text tag = tag_text tag ++ (36 ∷ [])

-- the tag of the width w, if `d` and `$` follow its digits
abbrev pub end_of : List ℕ → ℕ → Option (Option ℕ)
end_of t w = when (begins (codes "d$") (drop (2 + length (width_text w)) t)) (Some (Some w))

-- the tag that with a `$` a text begins with
abbrev pub tag_of : List ℕ → Option (Option ℕ)
tag_of t = when (begins (codes "%0") t) (and_then (width_of (slice_index t 2) (slice_index t 3)) (end_of t))

-- the tag, or none, that with a `$` a text begins with
abbrev pub closing_of : List ℕ → Option (Option ℕ)
closing_of t = cond (begins (codes "$") t) (Some None) (tag_of t)

-- whether an identifier takes the tag
abbrev pub takes : Identifier → Option ℕ → Bool
takes i None = true
takes RepresentationId (Some w) = false
takes Number (Some w) = true
takes Bandwidth (Some w) = true
takes Time (Some w) = true

-- the value of an identifier, if it takes the tag
abbrev pub value_with : Identifier → Option ℕ → Option Piece
value_with i tag = when (takes i tag) (Some (Value i tag))

-- the value of the identifier, if a text goes on with it behind a `$`
abbrev pub value_of : Identifier → List ℕ → Option Piece
value_of i t = when (begins (name_of i) t) (and_then (closing_of (drop (length (name_of i)) t)) (value_with i))

-- the value of any identifier that a text goes on with behind a `$`
abbrev pub values : List ℕ → Option Piece
values t =
    option_or (option_or (option_or (value_of RepresentationId t) (value_of Number t)) (value_of Bandwidth t)) (value_of Time t)

-- the piece that a text goes on with behind a `$`
abbrev pub marked : List ℕ → Option Piece
marked t = cond (begins (codes "$") t) (Some Dollar) (values t)

-- the piece that a text begins with
abbrev pub next : List ℕ → Option Piece
next [] = None
next (b ∷ t) = cond (b == 36) (marked t) (Some (Byte b))

-- what a place of a template has: a piece and where it ends, none at the end, or a break
abbrev pub AtPlace : Type 0
AtPlace = Result (Option (Piece × ℕ)) Broken

-- the refusal of a template
abbrev pub a_break : Broken
a_break = record {}

-- the piece at the place `at` with where it ends, or a break
abbrev pub ending : ℕ → Option Piece → AtPlace
ending at None = Err a_break
ending at (Some p) = Ok (Some (p, at + length (text_of p)))

-- what stands at the place `at`, from which the text goes on
abbrev pub next_at : ℕ → List ℕ → AtPlace
next_at at [] = Ok None
next_at at (b ∷ t) = ending at (next (b ∷ t))

-- the piece and what comes behind the rest of its bytes, or a break
abbrev pub onward : Option Piece → (ℕ → List Piece × Bool) → List Piece × Bool
onward None more = ([], true)
onward (Some p) more = (p ∷ (more (pred (length (text_of p)))).0, (more (pred (length (text_of p)))).1)

-- the pieces behind k bytes, up to the end or the first break, and whether there is a break
abbrev pub walk : ℕ → List ℕ → List Piece × Bool
walk k [] = ([], false)
walk (suc k) (b ∷ t) = walk k t
walk zero (b ∷ t) = onward (next (b ∷ t)) (λ k. walk k t)

-- the pieces of a template, up to the end or the first break
abbrev pub pieces : List ℕ → List Piece
pieces t = (walk 0 t).0

-- whether a template breaks anywhere
abbrev pub broken : List ℕ → Bool
broken t = (walk 0 t).1

-- which of the identifiers it is
abbrev pub place : Identifier → ℕ
place RepresentationId = 0
place Number = 1
place Bandwidth = 2
place Time = 3

-- whether a piece gives the value of the identifier
abbrev pub is_value_of : Identifier → Piece → Bool
is_value_of i (Byte b) = false
is_value_of i Dollar = false
is_value_of i (Value j tag) = place j == place i

-- whether an identifier stands before any break
abbrev pub stands : Identifier → List ℕ → Bool
stands i t = list_any (is_value_of i) (pieces t)
