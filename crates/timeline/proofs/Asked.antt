-- What an answer about a place tells of the list.
use Rattle.std.proofs.Common.{◌≡◌, ℕ, ◌+◌, ◌-◌, ◌<◌, ◌≤◌, Bool, true, false, ltb, List, length, get_or, drop, Ok, Err, filter, sym, ap, ◌∙◌, subst, inl, inr, arith, length-drop}
use Rattle.std.proofs.lemmas.List.{length-take-le, get_or-drop}
use Rattle.std.proofs.lemmas.Bool.{lt-ltb, le-ltb, cases_lt}
use Rattle.std.proofs.lemmas.Bool.Decides.{nat_tests}
use Rattle.timeline.specs.declared.segment.Segment.{Segment}
use Rattle.timeline.specs.declared.fault.NoSuchPlace.{NoSuchPlace}
use Rattle.timeline.specs.Segments.{end, blank, told, Sound, Limited, after, within_of, under_way}
use Rattle.timeline.specs.Laws.Kept.{kept_front, kept_back}
use Rattle.timeline.specs.Laws.Splits.{Split, Begun}
use Rattle.timeline.specs.Laws.Tellings.{told_at, told_past, limited_at}
use Rattle.timeline.proofs.Filters.{kept_kept}

-- a segment that is told stands at its place
pub record Stands (xs : List Segment) (i : ℕ) (s : Segment) : Type 0 where
  pub there : i < length xs
  pub is : (d : Segment) → get_or xs i d ≡ s
  pub limited : Limited s

module _ (xs : List Segment) (ok : Sound xs) (i : ℕ) where
  pub stands : (s : Segment) → Ok s ≡ told xs i → Stands xs i s
  stands s e =
      elim (cases_lt i (length xs)) [
        | inl l ↦
            let is : (d : Segment) → get_or xs i d ≡ s = λ d. let t = told_at xs i d l in cc in
            record { there = l; is = is; limited = subst Limited (is blank) (limited_at xs ok i blank l) }
        | inr l ↦ let t = told_past xs i l in absurd cc
      ]

  pub past : (e : NoSuchPlace) → Err e ≡ told xs i → length xs ≤ i
  past e t =
      elim (cases_lt i (length xs)) [
        | inl l ↦ let t' = told_at xs i blank l in absurd cc
        | inr l ↦ l
      ]

module _ (xs : List Segment) (i tick : ℕ) where
  pub begins_at : (r : Bool) → r ≡ under_way tick (told xs i) → r ≡ true → (i < length xs) × ((get_or xs i blank).start < tick)
  begins_at r e h =
      elim (cases_lt i (length xs)) [
        | inl l ↦ let t = told_at xs i blank l in (l, grind (arith, nat_tests))
        | inr l ↦ let t = told_past xs i l in grind arith
      ]

  pub waits_at : (r : Bool) → r ≡ under_way tick (told xs i) → r ≡ false → i < length xs → tick ≤ (get_or xs i blank).start
  waits_at r e h l = let t = told_at xs i blank l in grind (arith, nat_tests)

-- the segments that end after a tick are those from a place on
module _ (xs : List Segment) (tick k : ℕ) (split : Split xs tick k) where
  pub after_is : after tick xs ≡ drop k xs
  after_is =
      kept_back (λ s. ltb tick (end s)) xs k split.within
      (λ i d h. le-ltb tick (end (get_or xs i d)) (split.before i d h))
      (λ i d h l. lt-ltb tick (end (get_or xs i d)) (split.after i d h l))

  pub length-after : length (after tick xs) ≡ length xs - k
  length-after = ap length after_is ∙ length-drop k xs

  pub told_after : (i : ℕ) → told (after tick xs) i ≡ told xs (k + i)
  told_after i =
      elim (cases_lt i (length xs - k)) [
        | inl l ↦
            let within : i < length (after tick xs) = rw length-after l in
            told_at (after tick xs) i blank within ∙ ap Ok (ap (λ ys. get_or ys i blank) after_is ∙ get_or-drop k xs i blank) ∙ sym (told_at xs (k + i) blank (omega arith))
        | inr l ↦ told_past (after tick xs) i (rw length-after l) ∙ sym (told_past xs (k + i) (omega (arith, split.within)))
      ]

  -- those among them that start before another tick
  pub within_is : (to b : ℕ) → Begun xs to b → within_of xs tick to ≡ b - k
  within_is to b begun =
      let early : b - k ≤ length (drop k xs) = rw (length-drop k xs) (omega (arith, begun.within)) in
      let front = kept_front (λ s. ltb s.start to) (drop k xs) (b - k) early
      (λ i d h. rw (get_or-drop k xs i d) (lt-ltb (get_or xs (k + i) d).start to (begun.before (k + i) d (omega arith))))
      (λ i d h l. let m : i < length xs - k = rw (length-drop k xs) at l in rw (get_or-drop k xs i d) (le-ltb (get_or xs (k + i) d).start to (begun.after (k + i) d (omega arith) (omega arith)))) in
      ap length (sym (kept_kept (λ s. ltb s.start to) (λ s. ltb tick (end s)) xs) ∙ ap (filter (λ s. ltb s.start to)) after_is ∙ front)
      ∙ length-take-le (b - k) (drop k xs) early
