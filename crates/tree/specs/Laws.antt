-- What an answer over the rows says: the first row that fits, or that none does.
use Rattle.std.specs.Prelude.{◌≡◌, ℕ, ◌+◌, ◌<◌, ◌≤◌, List, length, Some, None, Option, slice_index_or}
use Rattle.tables.specs.Parts.{part}
use Rattle.tables.specs.Zero.{no_element, no_attribute}
use Rattle.tables.specs.declared.manifest.Attribute.{Attribute}
use Rattle.tables.specs.declared.manifest.Element.{Element}

-- P holds of no number from a on and below b
abbrev pub Nowhere : (ℕ → Type 0) → ℕ → ℕ → Type 0
Nowhere P a b = (i : ℕ) → a ≤ i → i < b → P i → ⊥

-- k is the first number from a on and below b of which P holds
pub record First (P : ℕ → Type 0) (a b k : ℕ) : Type 0 where
  pub from : a ≤ k
  pub below : k < b
  pub here : P k
  pub before : Nowhere P a k

module _ (m : List ℕ) (e : ℕ) (n : List ℕ) where
  -- the row k is one of an attribute of the element in the row e, with the name n
  abbrev pub Bears : List Attribute → ℕ → Type 0
  Bears rows k = ((slice_index_or rows k no_attribute).element ≡ e) × (part m (slice_index_or rows k no_attribute).name ≡ n)

  -- the value is that of the first such row, and there is none only where there is no such row
  abbrev pub FirstValue : List Attribute → Option (List ℕ) → Type 0
  FirstValue rows None = Nowhere (Bears rows) 0 (length rows)
  FirstValue rows (Some v) = (k : ℕ) × First (Bears rows) 0 (length rows) k × (v ≡ part m (slice_index_or rows k no_attribute).value)

  -- the row k is one of a child of the element in the row e, with the name n
  abbrev pub Child : List Element → ℕ → Type 0
  Child rows k = ((slice_index_or rows k no_element).parent ≡ e) × (part m (slice_index_or rows k no_element).name ≡ n)

  -- the row is the first such one behind e, and there is none only where there is no such row
  abbrev pub FirstChild : List Element → Option ℕ → Type 0
  FirstChild rows None = Nowhere (Child rows) (e + 1) (length rows)
  FirstChild rows (Some k) = First (Child rows) (e + 1) (length rows) k
