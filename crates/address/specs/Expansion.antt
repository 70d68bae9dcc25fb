-- What a template gives for a segment.
use Rattle.std.specs.Prelude.{◌≡◌, ℕ, List, [], ◌∷◌, ◌++◌, take, replicate, Some, None}
use Rattle.output.specs.Digits.{padded}
use Rattle.template.specs.declared.Identifier.{Identifier}
use Rattle.template.specs.declared.Identifier.TheVariants.{RepresentationId, Number, Bandwidth, Time}
use Rattle.template.specs.declared.Piece.{Piece}
use Rattle.template.specs.declared.Piece.TheVariants.{Byte, Dollar, Value}
use Rattle.template.specs.Pieces.{texts, AllAllowed}
use Rattle.template.specs.Reading.{pieces}
use Rattle.address.specs.declared.Values.{Values}

-- what the identifiers stand for
pub record Given : Type 0 where
  pub id : List ℕ
  pub bandwidth : ℕ
  pub number : ℕ
  pub time : ℕ

-- the same, as a call has it
abbrev pub given : Values → Given
given v = record { id = v.id.now; bandwidth = v.bandwidth; number = v.number; time = v.time }

-- the id, or a number in decimal with at least so many digits
abbrev pub value_text : Given → Identifier → ℕ → List ℕ
value_text v RepresentationId width = v.id
value_text v Number width = padded width v.number
value_text v Bandwidth width = padded width v.bandwidth
value_text v Time width = padded width v.time

-- the text that a piece gives
abbrev pub meaning : Given → Piece → List ℕ
meaning v (Byte b) = b ∷ []
meaning v Dollar = 36 ∷ []
meaning v (Value i None) = value_text v i 1
meaning v (Value i (Some width)) = value_text v i width

-- the texts that some pieces give, put together
abbrev pub meanings : Given → List Piece → List ℕ
meanings v [] = []
meanings v (p ∷ ps) = meaning v p ++ meanings v ps

-- the expansion of a template
abbrev pub expanded : List ℕ → Given → List ℕ
expanded template v = meanings v (pieces template)

-- the same, value by value
abbrev pub expansion : List ℕ → List ℕ → ℕ → ℕ → ℕ → List ℕ
expansion template id bandwidth number time =
    expanded template (record { id = id; bandwidth = bandwidth; number = number; time = time })

-- the first eight bytes of a text, zeros behind a shorter one
abbrev pub front_of : List ℕ → List ℕ
front_of text = take 8 (text ++ replicate 8 0)

-- however a template is written in pieces, its expansion is what these give
abbrev pub Expands : List ℕ → Given → Type 0
Expands template v = (ps : List Piece) → AllAllowed ps → texts ps ≡ template → expanded template v ≡ meanings v ps
