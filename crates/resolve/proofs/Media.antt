-- Where no rule is broken, the media template is whole.
use Rattle.std.proofs.Common.{◌≡◌, ℕ, suc, ◌+◌, ◌<◌, Bool, true, false, not, ◌&&◌, ◌⊎◌, List, [], ◌∷◌, ◌++◌, length, get_or, drop, is_some, Some, None, codes, Option, unwrap_or, sym, refl, ap, ◌∙◌, subst, inl, inr, arith, length-drop}
use Rattle.std.proofs.lemmas.List.{get_or-drop}
use Rattle.std.proofs.lemmas.Bool.{cond-true, cond-false, cases_Bool, and_parts}
use Rattle.std.specs.Option.{option_map, option_flatten, option_or}
use Rattle.std.specs.Str.{bytes_eq}
use Rattle.chosen.specs.Choosing.{is_static, chosen, at_level}
use Rattle.chosen.specs.declared.Chosen.{Chosen}
use Rattle.expand.specs.Expanding.{some}
use Rattle.rules.specs.Broken.{broken as ruleBroken, is_broken}
use Rattle.rules.specs.Findings.{findings}
use Rattle.rules.specs.declared.rule.Finding.{Finding}
use Rattle.rules.specs.declared.rule.Rule.{Rule}
use Rattle.rules.specs.declared.rule.Rule.TheVariants.{MediaBroken}
use Rattle.rules.proofs.Made.{lawful}
use Rattle.tables.specs.Parts.{part}
use Rattle.tables.specs.Zero.{no_element}
use Rattle.tables.specs.declared.manifest.Attribute.{Attribute}
use Rattle.tables.specs.declared.manifest.Element.{Element}
use Rattle.template.specs.Reading.{broken}
use Rattle.tree.specs.Questions.{name_at, value_of, is_child, child_from, child_of}
use Rattle.resolve.specs.Outcome.{Condition, first_of, admitting, preparing, media_of}
use Rattle.resolve.specs.declared.fault.ResolveFault.{ResolveFault}
use Rattle.resolve.specs.declared.fault.ResolveFault.TheVariants.{RuleBroken, NotStatic, NotFound}

-- a row that is found has the name that was sought
pub record Named (m : List ℕ) (n : List ℕ) (k : ℕ) (ys : List Element) (j : ℕ) : Type 0 where
  pub place : ℕ
  pub at : j ≡ k + place
  pub there : place < length ys
  pub named : bytes_eq (part m (get_or ys place no_element).name) n ≡ true

module _ (m : List ℕ) (e : ℕ) (n : List ℕ) where
  child_in : (k : ℕ) (ys : List Element) (j : ℕ) → child_from m e n k ys ≡ Some j → Named m n k ys j
  child_in k [] j h = let z : ◌≡◌ {A = ℕ} 0 1 = cc in absurd (omega arith)
  child_in k (y ∷ ys) j h =
      elim (cases_Bool (is_child m e n y)) [
        | inl yes' ↦
            let s = sym (cond-true (is_child m e n y) (Some k) (child_from m e n (k + 1) ys) yes') ∙ h in
            let same : j ≡ k = cc in
            record { place = 0; at = omega arith; there = omega arith; named = (and_parts _ (bytes_eq (part m y.name) n) yes').1 }
        | inr no' ↦
            let s = sym (cond-false (is_child m e n y) (Some k) (child_from m e n (k + 1) ys) no') ∙ h in
            let later = child_in (k + 1) ys j s in
            record { place = suc later.place; at = omega (arith, later.at); there = omega (arith, later.there); named = later.named }
      ]

child_named : (m : List ℕ) (es : List Element) (e : ℕ) (n : List ℕ) (j : ℕ) → child_of m es e n ≡ Some j → (j < length es) × (bytes_eq (name_at m es j) n ≡ true)
child_named m es e n j h =
    let f = child_in m e n (e + 1) (drop (e + 1) es) j h in
    let long = length-drop (e + 1) es in
    let there = f.there in
    (omega (arith, f.at), subst (λ x. bytes_eq (part m x.name) n ≡ true) (get_or-drop (e + 1) es f.place no_element ∙ ap (λ i. get_or es i no_element) (sym f.at)) f.named)

module _ (m : List ℕ) (es : List Element) (xs : List Attribute) (none : findings m es xs ≡ []) where
  unbroken : (e : ℕ) (f : Rule) → e < length es → ruleBroken m es xs e f ≡ false
  unbroken e f h =
      elim (cases_Bool (ruleBroken m es xs e f)) [
        | inl bad ↦
            let found = (lawful m es xs).complete f e h bad in
            let few : length (findings m es xs) ≡ 0 = ap length none in
            absurd (omega (arith, found.1))
        | inr good ↦ good
      ]

  level_whole : (e : ℕ) (t : List ℕ) → at_level m es xs (λ k. value_of m xs k (codes "media")) e ≡ Some t → broken t ≡ false
  level_whole e t h = go (child_of m es e (codes "SegmentTemplate")) refl h
    where
      go : (o : Option ℕ) → child_of m es e (codes "SegmentTemplate") ≡ o → option_flatten (option_map (λ k. value_of m xs k (codes "media")) o) ≡ Some t → broken t ≡ false
      go None is h = let z : ◌≡◌ {A = ℕ} 0 1 = cc in absurd (omega arith)
      go (Some k) is h =
          let row = child_named m es e (codes "SegmentTemplate") k is in
          let fine = unbroken k MediaBroken row.0 in
          sym (ap is_broken h) ∙ sym (ap (λ b. b && is_broken (value_of m xs k (codes "media"))) row.1) ∙ fine

  either : (a b c : Option (List ℕ)) (t : List ℕ) → option_or (option_or a b) c ≡ Some t → (a ≡ Some t) ⊎ ((b ≡ Some t) ⊎ (c ≡ Some t))
  either (Some x) b c t h = inl h
  either None (Some y) c t h = inr (inl h)
  either None None c t h = inr (inr h)

  media_of_lem : (ch : Chosen) (o : Option (List ℕ)) → media_of m es xs ch ≡ o → broken (unwrap_or o []) ≡ false
  media_of_lem ch None h = refl
  media_of_lem ch (Some t) h =
      elim (either (at_level m es xs (λ k. value_of m xs k (codes "media")) ch.representation) (at_level m es xs (λ k. value_of m xs k (codes "media")) ch.set) (at_level m es xs (λ k. value_of m xs k (codes "media")) ch.period) t h) [
        | inl a ↦ level_whole ch.representation t a
        | inr r ↦ elim r [ inl b ↦ level_whole ch.set t b | inr c ↦ level_whole ch.period t c ]
      ]

some_none : (fs : List Finding) → some fs ≡ false → fs ≡ []
some_none [] h = refl
some_none (f ∷ fs) h = let z : ◌≡◌ {A = Bool} true false = h in cc

first_false : (b : Bool) (e : ResolveFault) (cs : List Condition) → first_of ((b, e) ∷ cs) ≡ None → b ≡ false
first_false true e cs h = cc
first_false false e cs h = refl

pub media_whole : (m : List ℕ) (es : List Element) (xs : List Attribute) (i j : ℕ) → first_of (admitting m es xs i j ++ preparing m es xs i j) ≡ None → (ch : Chosen) → broken (unwrap_or (media_of m es xs ch) []) ≡ false
media_whole m es xs i j h ch = media_of_lem m es xs (some_none (findings m es xs) (first_false (some (findings m es xs)) RuleBroken ((not (is_static m es xs), NotStatic) ∷ (not (is_some (chosen m es xs i j)), NotFound) ∷ preparing m es xs i j) h)) ch (media_of m es xs ch) refl
