-- What is said of a tree: of its manifest, its elements and its attributes.
use Rattle.std.specs.Prelude.{ℕ, Bool, List, Option}
use Rattle.tables.specs.declared.manifest.Attribute.{Attribute}
use Rattle.tables.specs.declared.manifest.Element.{Element}
use Rattle.tree.specs.Laws.{FirstValue, FirstChild}
use Rattle.tree.specs.Questions.{name_at, text_at, value_of, child_of, is_child_at, children_of}
use Rattle.tree.specs.declared.Tree.{Tree}

-- what f says of the tree
abbrev pub on : {X : Type 0} → (List ℕ → List Element → List Attribute → X) → Tree → X
on f t = f t.manifest.now t.elements.now t.attributes.now

-- the questions that need the manifest and one kind of rows alone
module _ (t : Tree) where
  abbrev pub name_in : ℕ → List ℕ
  name_in = name_at t.manifest.now t.elements.now

  abbrev pub text_in : ℕ → List ℕ
  text_in = text_at t.manifest.now t.elements.now

  abbrev pub value_in : ℕ → List ℕ → Option (List ℕ)
  value_in = value_of t.manifest.now t.attributes.now

  abbrev pub child_in : ℕ → List ℕ → Option ℕ
  child_in = child_of t.manifest.now t.elements.now

  abbrev pub is_child_in : ℕ → List ℕ → ℕ → Bool
  is_child_in = is_child_at t.manifest.now t.elements.now

  abbrev pub children_in : ℕ → List ℕ → List ℕ
  children_in = children_of t.manifest.now t.elements.now

  -- what is said of a first row
  abbrev pub FirstValueIn : ℕ → List ℕ → Option (List ℕ) → Type 0
  FirstValueIn e n = FirstValue t.manifest.now e n t.attributes.now

  abbrev pub FirstChildIn : ℕ → List ℕ → Option ℕ → Type 0
  FirstChildIn e n = FirstChild t.manifest.now e n t.elements.now
