-- What the reading of a template says of its text.
use Rattle.std.specs.Prelude.{◌≡◌, ℕ, ◌+◌, ◌<◌, ◌≤◌, List, [], ◌∷◌, ◌++◌, length, drop, Some, None, Ok, Err, Option, ◌≢◌}
use Rattle.template.specs.declared.Identifier.{Identifier}
use Rattle.template.specs.declared.Piece.{Piece}
use Rattle.template.specs.declared.Piece.TheVariants.{Value}
use Rattle.template.specs.Pieces.{text_of, texts, Allowed, AllAllowed}
use Rattle.template.specs.Reading.{AtPlace}

-- a piece stands at the place `at` of the template and ends at `end`
pub record Standing (t : List ℕ) (at : ℕ) (p : Piece) (end : ℕ) : Type 0 where
  pub allowed : Allowed p
  pub text : drop at t ≡ text_of p ++ drop end t
  pub long : end ≡ at + length (text_of p)
  pub more : at < end
  pub within : end ≤ length t

-- no piece stands at the place `at`, though the template goes on
pub record Break (t : List ℕ) (at : ℕ) : Type 0 where
  pub inside : at < length t
  pub none : (p : Piece) (rest : List ℕ) → Allowed p → drop at t ≢ text_of p ++ rest

-- what an answer for the place `at` says of the template
abbrev pub Told : List ℕ → ℕ → AtPlace → Type 0
Told t at (Ok (Some (p, end))) = Standing t at p end
Told t at (Ok None) = length t ≤ at
Told t at (Err e) = Break t at

-- any piece that stands at the place `at` is the one answered
abbrev pub Only : List ℕ → ℕ → AtPlace → Type 0
Only t at r =
    (p : Piece) (rest : List ℕ) → Allowed p → drop at t ≡ text_of p ++ rest → r ≡ Ok (Some (p, at + length (text_of p)))

-- a template that consists of allowed pieces
abbrev pub Whole : List ℕ → Type 0
Whole t = (ps : List Piece) × AllAllowed ps × (texts ps ≡ t)

-- an identifier that stands behind allowed pieces, whatever follows it
abbrev pub Before : Identifier → List ℕ → Type 0
Before i t =
    (ps : List Piece) × (tag : Option ℕ) × (rest : List ℕ)
    × AllAllowed (ps ++ (Value i tag ∷ [])) × (t ≡ texts (ps ++ (Value i tag ∷ [])) ++ rest)
