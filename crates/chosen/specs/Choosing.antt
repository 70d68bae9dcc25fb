-- The chosen elements of a manifest, and what their three levels say.
use Rattle.std.specs.Prelude.{◌≡◌, ℕ, Bool, ◌&&◌, List, length, codes, None, Option, MatchOption, slice_index_or}
use Rattle.std.specs.Option.{option_map, option_flatten, option_or}
use Rattle.std.specs.List.{slice_get}
use Rattle.rules.specs.Broken.{is, typed}
use Rattle.tables.specs.Zero.{no_element}
use Rattle.tables.specs.declared.manifest.Attribute.{Attribute}
use Rattle.tables.specs.declared.manifest.Element.{Element}
use Rattle.tree.specs.Questions.{text_at, value_of, child_of, children_of, is_child_at, rows_from}
use Rattle.tree.specs.Trees.{child_in}
use Rattle.tree.specs.declared.Tree.{Tree}
use Rattle.chosen.specs.declared.Chosen.{Chosen}

module _ (m : List ℕ) (es : List Element) (xs : List Attribute) where
  -- whether the root is an MPD that is static
  abbrev pub is_static : Bool
  is_static = is m es xs 0 (codes "MPD") && typed m es xs 0 (codes "static")

  abbrev pub parent_of : ℕ → ℕ
  parent_of k = (slice_index_or es k no_element).parent

  -- whether the row k is that of a Representation in an AdaptationSet of the Period in the row p
  abbrev pub is_representation_of : ℕ → ℕ → Bool
  is_representation_of p k = is_child_at m es (parent_of k) (codes "Representation") k && is_child_at m es p (codes "AdaptationSet") (parent_of k)

  -- the rows of the Representations of a Period, through all its AdaptationSets
  abbrev pub representations_of : ℕ → List ℕ
  representations_of p = rows_from (is_representation_of p) (length es) 0

  -- the Period in the row p and the Representation in the row k, with its AdaptationSet
  abbrev pub chosen_at : ℕ → ℕ → Chosen
  chosen_at p k = record { period = p; set = parent_of k; representation = k }

  -- the Period at a position, and the Representation of it at a position
  abbrev pub chosen : ℕ → ℕ → Option Chosen
  chosen i j = option_flatten (option_map (λ p. option_map (chosen_at p) (slice_get (representations_of p) j)) (slice_get (children_of m es 0 (codes "Period")) i))

  -- what the SegmentTemplate of an element answers; its first one counts
  abbrev pub at_level : {X : Type 0} → (ℕ → Option X) → ℕ → Option X
  at_level ask e = option_flatten (option_map ask (child_of m es e (codes "SegmentTemplate")))

  -- what the innermost SegmentTemplate answers that has an answer
  abbrev pub innermost : {X : Type 0} → (ℕ → Option X) → Chosen → Option X
  innermost ask c = option_or (option_or (at_level ask c.representation) (at_level ask c.set)) (at_level ask c.period)

  -- an attribute of the template, and its SegmentTimeline
  abbrev pub templated : Chosen → List ℕ → Option (List ℕ)
  templated c n = innermost (λ t. value_of m xs t n) c

  abbrev pub timeline_in : Chosen → Option ℕ
  timeline_in c = innermost (λ t. child_of m es t (codes "SegmentTimeline")) c

  -- the base URL of an element: the text of its first BaseURL
  abbrev pub base_of : ℕ → Option (List ℕ)
  base_of e = option_map (text_at m es) (child_of m es e (codes "BaseURL"))

-- the same of answers that are known by what the template may give
module _ {X : Type 0} (t : Tree) (gives : ℕ → Option X → Type 0) where
  abbrev pub AnswersAt : ℕ → Option X → Type 0
  AnswersAt e answer = MatchOption (child_in t e (codes "SegmentTemplate")) (answer ≡ None) (λ template. gives template answer)

  abbrev pub AnswersInnermost : Chosen → Option X → Type 0
  AnswersInnermost c answer = (inner : Option X) × (middle : Option X) × (outer : Option X) × AnswersAt c.representation inner × AnswersAt c.set middle × AnswersAt c.period outer × (answer ≡ option_or (option_or inner middle) outer)
