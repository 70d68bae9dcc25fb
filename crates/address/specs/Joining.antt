-- How the parts of an address are joined.
use Rattle.std.specs.Prelude.{◌≡◌, ℕ, ◌<◌, ◌≤◌, Bool, true, false, cond, ◌||◌, ◌⊎◌, List, [], ◌∷◌, ◌++◌, length, Some, None, codes, Option, slice_index_or}
use Rattle.std.specs.Borrow.{Bor}
use Rattle.template.specs.Reading.{begins}
use Rattle.address.specs.declared.Parts.{Parts}
use Rattle.address.specs.Expansion.{Given, expanded}

-- whether a part starts with `http://` or `https://`
abbrev pub absolute : List ℕ → Bool
absolute part = begins (codes "http://") part || begins (codes "https://") part

-- whether one of the parts does
abbrev pub some_absolute : List (List ℕ) → Bool
some_absolute [] = false
some_absolute (part ∷ parts) = absolute part || some_absolute parts

-- the parts from the last absolute one on, all of them if none is absolute
abbrev pub from_last : List (List ℕ) → List (List ℕ)
from_last [] = []
from_last (part ∷ parts) = cond (some_absolute parts) (from_last parts) (part ∷ parts)

-- the bytes of some parts, one behind the other
abbrev pub together : List (List ℕ) → List ℕ
together [] = []
together (part ∷ parts) = part ++ together parts

-- the bytes of the joined parts
abbrev pub joined : List (List ℕ) → List ℕ
joined parts = together (from_last parts)

-- a base URL as a part; an absent one is no part
abbrev pub part_in : Option (Bor (List ℕ)) → List (List ℕ)
part_in None = []
part_in (Some text) = text.now ∷ []

-- the base URLs that are present, as parts
abbrev pub present : List (Option (Bor (List ℕ))) → List (List ℕ)
present [] = []
present (base ∷ bases) = part_in base ++ present bases

-- what the identifiers stand for in the address of a segment
abbrev pub given_of : Parts → ℕ → ℕ → Given
given_of p number time = record { id = p.id.now; bandwidth = p.bandwidth; number = number; time = time }

-- the parts of an address that are present, in their order, by what the identifiers stand for
abbrev pub parts_with : Parts → Given → List (List ℕ)
parts_with p v =
    part_in p.mpd ++ (part_in p.period ++ (part_in p.set ++ (part_in p.representation ++ (expanded p.template.now v ∷ []))))

-- those of a segment
abbrev pub parts_of : Parts → ℕ → ℕ → List (List ℕ)
parts_of p number time = parts_with p (given_of p number time)

-- the address of a segment
abbrev pub address_of : Parts → ℕ → ℕ → List ℕ
address_of p number time = joined (parts_of p number time)

-- whether a base URL is present and absolute
abbrev pub absolute_in : Option (Bor (List ℕ)) → Bool
absolute_in None = false
absolute_in (Some text) = absolute text.now

-- the place from which base URLs are joined: behind them where the address starts anew later, else that of the last
-- absolute one, or the first where none is
pub record JoinedFrom (bases : List (Option (Bor (List ℕ)))) (later : Bool) (start : ℕ) : Type 0 where
  pub within : start ≤ length bases
  pub past : later ≡ true → start ≡ length bases
  pub here : later ≡ false → 0 < start → absolute_in (slice_index_or bases start None) ≡ true
  pub behind : later ≡ false → (k : ℕ) → start < k → k < length bases → absolute_in (slice_index_or bases k None) ≡ false

-- where an address begins: at an absolute part with none behind it, or at the first of parts of which none is absolute
abbrev pub Beginning : List (List ℕ) → List (List ℕ) → Type 0
Beginning front rest =
    ((part : List ℕ) × (later : List (List ℕ)) × (rest ≡ part ∷ later) × (absolute part ≡ true) × (some_absolute later ≡ false))
    ⊎ ((front ≡ []) × (some_absolute rest ≡ false))

-- the text is some last ones of the parts, put together, from where the address begins
abbrev pub Begun : List (List ℕ) → List ℕ → Type 0
Begun parts text =
    (front : List (List ℕ)) × (rest : List (List ℕ)) × (parts ≡ front ++ rest) × (text ≡ together rest) × Beginning front rest
