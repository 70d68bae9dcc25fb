-- What is read of the Periods that are left.
use Rattle.std.proofs.Common.{◌≡◌, ℕ, suc, ◌+◌, ◌≤◌, min, Bool, true, false, ◌||◌, List, ◌∷◌, length, take, refl, ap, ◌∙◌, sym, inl, inr, arith}
use Rattle.std.proofs.lemmas.Bool.{cases_lt}
use Rattle.std.proofs.lemmas.List.{take_all}
use Rattle.tables.specs.declared.manifest.Attribute.{Attribute}
use Rattle.tables.specs.declared.manifest.Element.{Element}
use Rattle.values.specs.Given.{some_unread}
use Rattle.values.proofs.Presence.{unread_append}
use Rattle.periods.specs.Starts.{asked_of, asked_by}

-- a count that is cut to a number takes as many of a list that is no longer than that number
pub take_cut : (n most : ℕ) (rows : List ℕ) → length rows ≤ most → take (min n most) rows ≡ take n rows
take_cut n most rows fits =
    elim (cases_lt most n) [
      | inl more ↦ let cut : min n most ≡ most = omega arith in let all : length rows ≤ n = omega arith in rw cut (take_all most rows fits ∙ sym (take_all n rows all))
      | inr few ↦ let whole : min n most ≡ n = omega arith in rw whole refl
    ]

module _ (m : List ℕ) (es : List Element) (xs : List Attribute) where
  -- whether something of these rows cannot be read
  abbrev pub unread_by : List ℕ → Bool
  unread_by rows = some_unread (asked_by m es xs rows)

  module _ (n e row : ℕ) (rows rest : List ℕ) (so : rows ≡ row ∷ rest) (more : e + 1 ≡ n) where
    first : unread_by (take n rows) ≡ (some_unread (asked_of m es xs row) || unread_by (take e rest))
    first = let s : n ≡ suc e = omega arith in rw (s, so) (unread_append (asked_of m es xs row) (asked_by m es xs (take e rest)))

    -- the first of them cannot be read, or can
    pub unread_here : some_unread (asked_of m es xs row) ≡ true → unread_by (take n rows) ≡ true
    unread_here bad = first ∙ ap (λ b. b || unread_by (take e rest)) bad

    pub read_here : some_unread (asked_of m es xs row) ≡ false → unread_by (take n rows) ≡ unread_by (take e rest)
    read_here good = first ∙ ap (λ b. b || unread_by (take e rest)) good
