-- What a list of findings has to be: true, whole and in order.
use Rattle.std.specs.Prelude.{◌≡◌, ℕ, ◌<◌, true, ◌⊎◌, List, length, Some, None, Option, slice_index_or}
use Rattle.tables.specs.declared.manifest.Attribute.{Attribute}
use Rattle.tables.specs.declared.manifest.Element.{Element}
use Rattle.tree.specs.declared.Tree.{Tree}
use Rattle.rules.specs.Broken.{broken, number}
use Rattle.rules.specs.Findings.{finding, no_finding}
use Rattle.rules.specs.declared.rule.Finding.{Finding}
use Rattle.rules.specs.declared.rule.Rule.{Rule}

-- the number of the rule, 0 where there is none
abbrev pub number_of : Option Rule → ℕ
number_of None = 0
number_of (Some f) = number f

-- x stands at an earlier element than y, or at the same one with an earlier rule
abbrev pub Before : Finding → Finding → Type 0
Before x y = (x.element < y.element) ⊎ ((x.element ≡ y.element) × (number_of x.rule < number_of y.rule))

-- xs lists each rule that is broken at an element, and nothing else, by element and then by rule
pub record Law (m : List ℕ) (es : List Element) (attrs : List Attribute) (xs : List Finding) : Type 0 where
  pub sound : (k : ℕ) → k < length xs → (f : Rule) × (e : ℕ) × (e < length es) × (broken m es attrs e f ≡ true) × (slice_index_or xs k no_finding ≡ finding f e)
  pub complete : (f : Rule) (e : ℕ) → e < length es → broken m es attrs e f ≡ true → (k : ℕ) × (k < length xs) × (slice_index_or xs k no_finding ≡ finding f e)
  pub ordered : (i j : ℕ) → i < j → j < length xs → Before (slice_index_or xs i no_finding) (slice_index_or xs j no_finding)

-- the same of the findings of a tree
abbrev pub LawOn : Tree → List Finding → Type 0
LawOn t xs = Law t.manifest.now t.elements.now t.attributes.now xs
