-- The pieces of an address template and the texts that write them.
use Rattle.std.specs.Prelude.{◌≡◌, ℕ, ◌+◌, ◌/◌, ◌%◌, ◌≤◌, cond, List, [], ◌∷◌, ◌++◌, Some, None, codes, Option, nat_lt}
use Rattle.template.specs.declared.Identifier.{Identifier}
use Rattle.template.specs.declared.Identifier.TheVariants.{RepresentationId, Number, Bandwidth, Time}
use Rattle.template.specs.declared.Piece.{Piece}
use Rattle.template.specs.declared.Piece.TheVariants.{Byte, Dollar, Value}

-- the name that writes an identifier
abbrev pub name_of : Identifier → List ℕ
name_of RepresentationId = codes "RepresentationID"
name_of Number = codes "Number"
name_of Bandwidth = codes "Bandwidth"
name_of Time = codes "Time"

-- a width in its one or two digits
abbrev pub width_text : ℕ → List ℕ
width_text w = cond (nat_lt w 10) ((48 + w) ∷ []) ((48 + w / 10) ∷ ((48 + w % 10) ∷ []))

-- a tag with its width, or none
abbrev pub tag_text : Option ℕ → List ℕ
tag_text None = []
tag_text (Some w) = codes "%0" ++ (width_text w ++ codes "d")

-- the text that writes a piece
abbrev pub text_of : Piece → List ℕ
text_of (Byte b) = b ∷ []
text_of Dollar = 36 ∷ (36 ∷ [])
text_of (Value i tag) = 36 ∷ (name_of i ++ (tag_text tag ++ (36 ∷ [])))

-- the texts of some pieces, put together
abbrev pub texts : List Piece → List ℕ
texts [] = []
texts (p ∷ ps) = text_of p ++ texts ps

-- a width is from 1 to 20
abbrev pub Width : ℕ → Type 0
Width w = (1 ≤ w) × (w ≤ 20)

-- which tags an identifier takes: RepresentationID none, any other a width
abbrev pub AllowedTag : Identifier → Option ℕ → Type 0
AllowedTag i None = Unit {0}
AllowedTag RepresentationId (Some w) = ⊥
AllowedTag Number (Some w) = Width w
AllowedTag Bandwidth (Some w) = Width w
AllowedTag Time (Some w) = Width w

-- a piece that may stand in a template: a byte for itself is not `$`
abbrev pub Allowed : Piece → Type 0
Allowed (Byte b) = b ≡ 36 → ⊥
Allowed Dollar = Unit {0}
Allowed (Value i tag) = AllowedTag i tag

-- pieces that all may stand in a template
abbrev pub AllAllowed : List Piece → Type 0
AllAllowed [] = Unit {0}
AllAllowed (p ∷ ps) = Allowed p × AllAllowed ps
