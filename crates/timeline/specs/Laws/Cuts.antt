-- The list of a cut, by the place where the list below is split.
use Rattle.std.specs.Prelude.{◌≡◌, ℕ, ◌+◌, ◌<◌, ◌≤◌, List, map, length, take, nat_lt, slice_index_or, refl}
use Rattle.std.proofs.Common.{ap, ◌∙◌, inl, inr, arith}
use Rattle.std.proofs.ByRecursion.{All-from_get_or}
use Rattle.std.proofs.lemmas.List.{length-map, get_or-map, get_or-take, get_or_default, length-take-le}
use Rattle.std.proofs.lemmas.Bool.{lt-ltb, le-ltb, cases_lt}
use Rattle.timeline.specs.declared.segment.Segment.{Segment}
use Rattle.timeline.specs.Segments.{blank, Sound, Limited, begun_by}
use Rattle.timeline.specs.Laws.Splits.{Split, Begun, counts_begun}
use Rattle.timeline.specs.Layers.{shortened, cut_off}
use Rattle.timeline.specs.Laws.Kept.{kept_front}
use Rattle.timeline.specs.Laws.Tellings.{in_order, limited_at, starts_rise}

-- from where the ends pass the tick to where the starts do
module _ (xs : List Segment) (ok : Sound xs) (tick k : ℕ) (split : Split xs tick k) where
  pub begun_more : (s : Segment) → k < length xs → slice_index_or xs k blank ≡ s → s.start < tick → Begun xs tick (k + 1)
  begun_more s within at early = record {
    within = omega arith;
    before = λ i d h. elim (cases_lt i k) [
      | inl l ↦ omega (arith, split.before i d l, (limited_at xs ok i d (omega arith)).long)
      | inr l ↦
          let e : i ≡ k = omega arith in
          rw (e, get_or_default xs k d blank within, at) early
    ];
    after = λ i d h l. omega (arith, in_order xs ok k i d (omega arith) l, split.after k d (omega arith) within);
  }

  pub begun_same : (k < length xs → tick ≤ (slice_index_or xs k blank).start) → Begun xs tick k
  begun_same late = record {
    within = split.within;
    before = λ i d h. omega (arith, split.before i d h, (limited_at xs ok i d (omega (arith, split.within))).long);
    after = λ i d h l.
        let within : k < length xs = omega arith in
        let first = rw (get_or_default xs k blank d within) at (late within) in
        omega (arith, starts_rise xs ok k i d h l);
  }

module _ (at : ℕ) (xs : List Segment) (k : ℕ) (begun : Begun xs at k) where
  cut_is : cut_off at xs ≡ map (shortened at) (take k xs)
  cut_is =
      ap (map (shortened at)) (kept_front (λ s. nat_lt s.start at) xs k begun.within
      (λ i d h. lt-ltb (slice_index_or xs i d).start at (begun.before i d h))
      (λ i d h l. le-ltb (slice_index_or xs i d).start at (begun.after i d h l)))

  pub length_cut : length (cut_off at xs) ≡ k
  length_cut = ap length cut_is ∙ length-map (take k xs) (shortened at) ∙ length-take-le k xs begun.within

  pub get_or-cut : (i : ℕ) (d : Segment) → i < k → slice_index_or (cut_off at xs) i d ≡ shortened at (slice_index_or xs i blank)
  get_or-cut i d h =
      let within : i < length (take k xs) = rw (length-take-le k xs begun.within) h in
      ap (λ ys. slice_index_or ys i d) cut_is ∙ get_or-map (shortened at) (take k xs) i blank d within ∙ ap (shortened at) (get_or-take k xs i blank h)

  sound_begun : Sound xs → Sound (cut_off at xs)
  sound_begun ok = record {
    few = rw length_cut (omega (arith, ok.few, begun.within));
    limited = All-from_get_or Limited (cut_off at xs) blank (λ i h.
        let j : i < k = rw length_cut at h in
        let l = limited_at xs ok i blank (omega (arith, begun.within)) in
        let early = begun.before i blank j in
        rw (get_or-cut i) record { number = l.number; long = omega arith; within = omega arith });
    order = λ i d h.
        let j : i + 1 < k = rw length_cut at h in
        let here : i < k = omega arith in
        let o = ok.order i blank (omega (arith, begun.within)) in
        let early = begun.before i blank here in
        rw (get_or-cut i, get_or-cut (i + 1)) (omega arith);
  }

-- a cut keeps the limits and the order
pub sound_cut : (at : ℕ) (xs : List Segment) → Sound xs → Sound (cut_off at xs)
sound_cut at xs ok = sound_begun at xs (begun_by xs at) (counts_begun xs ok at (begun_by xs at) refl) ok
