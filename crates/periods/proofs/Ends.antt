-- Where a Period ends, and the time from its start to there.
use Rattle.std.proofs.Common.{◌≡◌, ℕ, ◌+◌, ◌≤◌, true, false, cond, ltb, List, length, Some, None, codes, Option, sym, ◌∙◌, subst, inl, inr, arith}
use Rattle.std.proofs.lemmas.Option.{slice_get-get_or, slice_get_past}
use Rattle.std.proofs.lemmas.Bool.{cond-true, cond-false, cases_lt, lt-ltb, le-ltb}
use Rattle.std.specs.List.{slice_get}
use Rattle.tables.specs.declared.manifest.Attribute.{Attribute}
use Rattle.tables.specs.declared.manifest.Element.{Element}
use Rattle.tree.specs.Questions.{value_of}
use Rattle.values.specs.Duration.{duration_of}
use Rattle.values.specs.Given.{present}
use Rattle.periods.specs.Starts.{periods, start_of, end_of, length_of}
use Rattle.periods.proofs.Durations.{Small}
use Rattle.periods.proofs.Sizes.{length-small}

-- there is a place in the list, or there is none
place_there : (ps : List ℕ) (j row : ℕ) → Some row ≡ slice_get ps j → ltb j (length ps) ≡ true
place_there ps j row e =
    elim (cases_lt j (length ps)) [
      | inl lt ↦ lt-ltb j (length ps) lt
      | inr le ↦ let none = slice_get_past ps j le in let z : ◌≡◌ {A = ℕ} 0 1 = cc in absurd (omega arith)
    ]

place_wanting : (ps : List ℕ) (j : ℕ) → None ≡ slice_get ps j → ltb j (length ps) ≡ false
place_wanting ps j e =
    elim (cases_lt j (length ps)) [
      | inl lt ↦ let some = slice_get-get_or ps j 0 lt in let z : ◌≡◌ {A = ℕ} 0 1 = cc in absurd (omega arith)
      | inr le ↦ le-ltb j (length ps) le
    ]

module _ (m : List ℕ) (es : List Element) (xs : List Attribute) where
  abbrev whole : Option ℕ
  whole = present duration_of (value_of m xs 0 (codes "mediaPresentationDuration"))

  -- a Period ends where the next one starts, or else with the presentation
  pub end_next : (i row : ℕ) → Some row ≡ slice_get (periods m es xs) (i + 1) → (o : Option ℕ) → o ≡ cond (ltb (i + 1) (length (periods m es xs))) (start_of m es xs (i + 1)) None → o ≡ end_of m es xs i
  end_next i row there o e =
      let b = ltb (i + 1) (length (periods m es xs)) in
      let t = place_there (periods m es xs) (i + 1) row there in
      e ∙ cond-true b (start_of m es xs (i + 1)) None t ∙ sym (cond-true b (start_of m es xs (i + 1)) whole t)

  pub end_last : (i : ℕ) → None ≡ slice_get (periods m es xs) (i + 1) → (o : Option ℕ) → o ≡ whole → o ≡ end_of m es xs i
  end_last i none o e =
      let b = ltb (i + 1) (length (periods m es xs)) in
      e ∙ sym (cond-false b (start_of m es xs (i + 1)) whole (place_wanting (periods m es xs) (i + 1) none))

  -- what the length of a Period is, is no longer than a duration
  pub length_fits : (i ms : ℕ) → Some ms ≡ length_of m es xs i → ms ≤ 100000000000
  length_fits i ms is = subst Small (sym is) (length-small m es xs i)
