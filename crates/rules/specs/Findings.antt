-- The findings of a manifest: which rules are broken at which elements, in their order.
use Rattle.std.specs.Prelude.{ℕ, zero, suc, Bool, cond, List, [], ◌∷◌, ◌++◌, length, Some, None}
use Rattle.tables.specs.declared.manifest.Attribute.{Attribute}
use Rattle.tables.specs.declared.manifest.Element.{Element}
use Rattle.rules.specs.Broken.{broken, rules}
use Rattle.rules.specs.declared.rule.Finding.{Finding}
use Rattle.rules.specs.declared.rule.Rule.{Rule}

-- the finding that the rule is broken at the element in the row e
abbrev pub finding : Rule → ℕ → Finding
finding f e = record { rule = Some f; element = e }

-- what an unused row of a table of findings holds
abbrev pub no_finding : Finding
no_finding = record { rule = None; element = 0 }

-- those of the rules fs that fail the test p at the row e
abbrev pub failing : (Rule → Bool) → ℕ → List Rule → List Finding
failing p e [] = []
failing p e (f ∷ fs) = cond (p f) (finding f e ∷ failing p e fs) (failing p e fs)

module _ (m : List ℕ) (es : List Element) (attrs : List Attribute) where
  -- the findings at the rows below k, in document order, then by rule
  abbrev pub findings_below : ℕ → List Finding
  findings_below zero = []
  findings_below (suc k) = findings_below k ++ failing (broken m es attrs k) k rules

  abbrev pub findings : List Finding
  findings = findings_below (length es)
