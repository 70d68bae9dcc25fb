-- The list of a shift, by the place where the list below is split.
use Rattle.std.specs.Prelude.{◌≡◌, ℕ, ◌+◌, ◌-◌, ◌<◌, List, map, length, drop, nat_lt, slice_index_or, refl}
use Rattle.std.proofs.Common.{ap, ◌∙◌, arith, length-drop}
use Rattle.std.proofs.ByRecursion.{All-from_get_or}
use Rattle.std.proofs.lemmas.List.{length-map, get_or-map, get_or-drop}
use Rattle.std.proofs.lemmas.Bool.{lt-ltb, le-ltb}
use Rattle.timeline.specs.declared.segment.Segment.{Segment}
use Rattle.timeline.specs.Segments.{blank, end, Sound, Limited, ended_by}
use Rattle.timeline.specs.Laws.Splits.{Split, counts_split}
use Rattle.timeline.specs.Layers.{earlier, shifted}
use Rattle.timeline.specs.Laws.Kept.{kept_back}
use Rattle.timeline.specs.Laws.Tellings.{limited_at}

module _ (by : ℕ) (xs : List Segment) (k : ℕ) (split : Split xs by k) where
  shifted_is : shifted by xs ≡ map (earlier by) (drop k xs)
  shifted_is =
      ap (map (earlier by)) (kept_back (λ s. nat_lt by (end s)) xs k split.within
      (λ i d h. le-ltb by (end (slice_index_or xs i d)) (split.before i d h))
      (λ i d h l. lt-ltb by (end (slice_index_or xs i d)) (split.after i d h l)))

  pub length-shifted : length (shifted by xs) ≡ length xs - k
  length-shifted = ap length shifted_is ∙ length-map (drop k xs) (earlier by) ∙ length-drop k xs

  pub get_or-shifted : (i : ℕ) (d : Segment) → i < length xs - k → slice_index_or (shifted by xs) i d ≡ earlier by (slice_index_or xs (k + i) blank)
  get_or-shifted i d h =
      let within : i < length (drop k xs) = rw (length-drop k xs) h in
      ap (λ ys. slice_index_or ys i d) shifted_is ∙ get_or-map (earlier by) (drop k xs) i blank d within ∙ ap (earlier by) (get_or-drop k xs i blank)

  sound_split : Sound xs → Sound (shifted by xs)
  sound_split ok = record {
    few = rw length-shifted (omega (arith, ok.few));
    limited = All-from_get_or Limited (shifted by xs) blank (λ i h.
        let j : i < length xs - k = rw length-shifted at h in
        let l = limited_at xs ok (k + i) blank (omega arith) in
        let late = split.after (k + i) blank (omega arith) (omega arith) in
        rw (get_or-shifted i) record { number = l.number; long = omega arith; within = omega arith });
    order = λ i d h.
        let j : i + 1 < length xs - k = rw length-shifted at h in
        let here : i < length xs - k = omega arith in
        let e : k + (i + 1) ≡ k + i + 1 = omega arith in
        let o = ok.order (k + i) blank (omega arith) in
        let late = split.after (k + i) blank (omega arith) (omega arith) in
        rw (get_or-shifted i, get_or-shifted (i + 1), e) (omega arith);
  }

-- a shift keeps the limits and the order
pub sound_shifted : (by : ℕ) (xs : List Segment) → Sound xs → Sound (shifted by xs)
sound_shifted by xs ok = sound_split by xs (ended_by xs by) (counts_split xs ok by (ended_by xs by) refl) ok
