-- What a layer asks of the timeline below it.
use Rattle.std.proofs.Common.{◌≡◌, ℕ, zero, suc, ◌+◌, ◌-◌, ◌<◌, ◌≤◌, min, Bool, false, ◌&&◌, ltb, List, [], ◌∷◌, map, length, get_or, Err, filter, sym, refl, ap, ◌∙◌, subst, inl, inr, arith, length-drop}
use Rattle.std.proofs.lemmas.List.{length-map, get_or-drop}
use Rattle.std.proofs.lemmas.Bool.{lt-ltb, ltb-true, cases_Bool}
use Rattle.std.proofs.lemmas.Bool.Decides.{nat_tests}
use Rattle.timeline.specs.declared.segment.Segment.{Segment}
use Rattle.timeline.specs.Refusals.{no_such_place}
use Rattle.timeline.specs.Segments.{end, told, Sound, Limited, ended_by, after, meets, within_of}
use Rattle.timeline.specs.Layers.{earlier, shifted, shortened, cut_off, mapped, only}
use Rattle.timeline.specs.Laws.Kept.{kept_nothing, Turns, turned}
use Rattle.timeline.specs.Laws.Splits.{counts_split}
use Rattle.timeline.specs.Laws.Tellings.{starts_rise}
use Rattle.timeline.proofs.Filters.{kept_map, kept_kept, kept_same}
use Rattle.timeline.proofs.Asked.{after_is}

-- what is told of a changed list, and of the front of one
pub told_map : (f : Segment → Segment) (xs : List Segment) (i : ℕ) → told (map f xs) i ≡ mapped f (told xs i)
told_map f [] i = refl
told_map f (x ∷ xs) zero = refl
told_map f (x ∷ xs) (suc i) = told_map f xs i

only_none : (p : Segment → Bool) (xs : List Segment) (i : ℕ) → ((j : ℕ) (d : Segment) → j < length xs → p (get_or xs j d) ≡ false) → only p (told xs i) ≡ Err no_such_place
only_none p [] i none = refl
only_none p (x ∷ xs) zero none = rw (none 0 x (omega arith))
only_none p (x ∷ xs) (suc i) none = only_none p xs i (λ j d h. none (suc j) d (omega arith))

pub told_front : (p : Segment → Bool) (xs : List Segment) → Turns p xs → (i : ℕ) → told (filter p xs) i ≡ only p (told xs i)
told_front p [] turns i = refl
told_front p (x ∷ xs) turns zero =
    elim (cases_Bool (p x)) [
      | inl passes ↦ rw passes
      | inr fails ↦ rw (fails, kept_nothing p xs (turned p xs x turns fails))
    ]
told_front p (x ∷ xs) turns (suc i) =
    elim (cases_Bool (p x)) [
      | inl passes ↦ rw passes (told_front p xs (λ a b d h l. turns (suc a) (suc b) d (omega arith) (omega arith)) i)
      | inr fails ↦ rw (fails, kept_nothing p xs (turned p xs x turns fails)) (sym (only_none p xs i (turned p xs x turns fails)))
    ]

-- no segment starts before 0
pub within_none : (xs : List Segment) (from : ℕ) → within_of xs from 0 ≡ 0
within_none [] from = refl
within_none (x ∷ xs) from =
    let e : meets from 0 x ≡ false = grind (arith, nat_tests) in
    rw e (within_none xs from)

module _ (xs : List Segment) (ok : Sound xs) where
  -- all that end after a tick
  pub within_all : (from : ℕ) → within_of xs from 18446744073709551615 ≡ length (after from xs)
  within_all from =
      ap length (kept_same Limited (meets from 18446744073709551615) (λ s. ltb from (end s)) (λ s l. let w = l.within in grind (arith, nat_tests)) xs ok.limited)

  module _ (by from m : ℕ) (sum : m ≡ min (by + from) 18446744073709551615) where
    pub after_shifted : after from (shifted by xs) ≡ map (earlier by) (after m xs)
    after_shifted =
        kept_map (λ s. ltb from (end s)) (earlier by) (after by xs)
        ∙ ap (map (earlier by)) (kept_kept (λ s. ltb from (end (earlier by s))) (λ s. ltb by (end s)) xs
        ∙ kept_same Limited (λ s. ltb by (end s) && ltb from (end (earlier by s))) (λ s. ltb m (end s)) (λ s l. let w = l.within in grind (arith, nat_tests)) xs ok.limited)

    pub within_shifted : (to n : ℕ) → n ≡ min (by + to) 18446744073709551615 → 0 < to → within_of (shifted by xs) from to ≡ within_of xs m n
    within_shifted to n total some =
        ap length (kept_map (meets from to) (earlier by) (after by xs))
        ∙ length-map (filter (λ s. meets from to (earlier by s)) (after by xs)) (earlier by)
        ∙ ap length (kept_kept (λ s. meets from to (earlier by s)) (λ s. ltb by (end s)) xs
        ∙ kept_same Limited (λ s. ltb by (end s) && meets from to (earlier by s)) (meets m n) (λ s l. let w = l.within in grind (arith, nat_tests)) xs ok.limited)

  pub length_shift : (by : ℕ) → within_of xs by 18446744073709551615 ≡ length (shifted by xs)
  length_shift by = within_all by ∙ sym (length-map (after by xs) (earlier by))

  module _ (at : ℕ) where
    pub length_cutting : within_of xs 0 at ≡ length (cut_off at xs)
    length_cutting =
        ap length (kept_same Limited (meets 0 at) (λ s. ltb s.start at) (λ s l. let w = l.long in grind (arith, nat_tests)) xs ok.limited)
        ∙ sym (length-map (filter (λ s. ltb s.start at) xs) (shortened at))

    pub within_cut : (from to n : ℕ) → n ≡ min to at → from < at → within_of (cut_off at xs) from to ≡ within_of xs from n
    within_cut from to n least early =
        ap length (kept_map (meets from to) (shortened at) (filter (λ s. ltb s.start at) xs))
        ∙ length-map (filter (λ s. meets from to (shortened at s)) (filter (λ s. ltb s.start at) xs)) (shortened at)
        ∙ ap length (kept_kept (λ s. meets from to (shortened at s)) (λ s. ltb s.start at) xs
        ∙ kept_same Limited (λ s. ltb s.start at && meets from to (shortened at s)) (meets from n) (λ s l. let w = l.long in grind (arith, nat_tests)) xs ok.limited)

    -- none of a cut list ends after the cut
    pub none_after : (from : ℕ) → at ≤ from → after from (cut_off at xs) ≡ []
    none_after from late =
        kept_map (λ s. ltb from (end s)) (shortened at) (filter (λ s. ltb s.start at) xs)
        ∙ ap (map (shortened at)) (kept_kept (λ s. ltb from (end (shortened at s))) (λ s. ltb s.start at) xs
        ∙ kept_same Limited (λ s. ltb s.start at && ltb from (end (shortened at s))) (λ s. false) (λ s l. grind (arith, nat_tests)) xs ok.limited
        ∙ kept_nothing (λ s. false) xs (λ i d h. refl))

    pub within_past : (from to : ℕ) → at ≤ from → within_of (cut_off at xs) from to ≡ 0
    within_past from to late =
        ap length (sym (kept_kept (λ s. ltb s.start to) (λ s. ltb from (end s)) (cut_off at xs)) ∙ ap (filter (λ s. ltb s.start to)) (none_after from late))

    pub after_cut : (from : ℕ) → from < at → after from (cut_off at xs) ≡ map (shortened at) (filter (λ s. ltb s.start at) (after from xs))
    after_cut from early =
        kept_map (λ s. ltb from (end s)) (shortened at) (filter (λ s. ltb s.start at) xs)
        ∙ ap (map (shortened at)) (kept_kept (λ s. ltb from (end (shortened at s))) (λ s. ltb s.start at) xs
        ∙ kept_same Limited (λ s. ltb s.start at && ltb from (end (shortened at s))) (λ s. ltb from (end s) && ltb s.start at) (λ s l. let w = l.long in grind (arith, nat_tests)) xs ok.limited
        ∙ sym (kept_kept (λ s. ltb s.start at) (λ s. ltb from (end s)) xs))

    starts_turn : Turns (λ s. ltb s.start at) xs
    starts_turn i j d h l t = lt-ltb (get_or xs i d).start at (omega (arith, starts_rise xs ok i j d h l, ltb-true (get_or xs j d).start at t))

    starts_turn_after : (from : ℕ) → Turns (λ s. ltb s.start at) (after from xs)
    starts_turn_after from =
        let k = ended_by xs from in
        subst (Turns (λ s. ltb s.start at)) (sym (after_is xs from k (counts_split xs ok from k refl)))
        (λ i j d h l t.
        let m : j < length xs - k = rw (length-drop k xs) at l in
        rw (get_or-drop k xs i d) (starts_turn (k + i) (k + j) d (omega arith) (omega arith) (rw (get_or-drop k xs j d) at t)))

    pub told_cutting : (i : ℕ) → told (cut_off at xs) i ≡ mapped (shortened at) (only (λ s. ltb s.start at) (told xs i))
    told_cutting i =
        told_map (shortened at) (filter (λ s. ltb s.start at) xs) i ∙ ap (mapped (shortened at)) (told_front (λ s. ltb s.start at) xs starts_turn i)

    pub told_after_cut : (from : ℕ) → from < at → (i : ℕ) → told (after from (cut_off at xs)) i ≡ mapped (shortened at) (only (λ s. ltb s.start at) (told (after from xs) i))
    told_after_cut from early i =
        ap (λ ys. told ys i) (after_cut from early)
        ∙ told_map (shortened at) (filter (λ s. ltb s.start at) (after from xs)) i
        ∙ ap (mapped (shortened at)) (told_front (λ s. ltb s.start at) (after from xs) (starts_turn_after from) i)
