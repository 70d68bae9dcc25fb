-- The places below that the places of a layer stand for.
use Rattle.std.proofs.Common.{◌≡◌, ℕ, ◌+◌, ◌<◌, min, false, ◌&&◌, ltb, leb, List, length, filter, sym, refl, ap, ◌∙◌, arith}
use Rattle.std.proofs.lemmas.List.{length-map}
use Rattle.std.proofs.lemmas.List.Filters.{length-filter_both}
use Rattle.std.proofs.lemmas.Bool.Decides.{nat_tests}
use Rattle.timeline.specs.declared.segment.Segment.{Segment}
use Rattle.timeline.specs.Segments.{end, Sound, Limited, ended_by, after}
use Rattle.timeline.specs.Layers.{earlier, shifted, shortened, cut_off}
use Rattle.timeline.specs.Laws.Kept.{kept_nothing}
use Rattle.timeline.proofs.Filters.{kept_map, kept_kept, kept_same}
use Rattle.timeline.proofs.Layered.{after_shifted}

-- those that have ended are what is left of those that have not
pub ended_left : (xs : List Segment) (tick : ℕ) → length (after tick xs) + ended_by xs tick ≡ length xs
ended_left xs tick = length-filter_both (λ s. ltb tick (end s)) (λ s. leb (end s) tick) (λ s. grind (arith, nat_tests)) xs

module _ (xs : List Segment) (ok : Sound xs) where
  module _ (by from m : ℕ) (sum : m ≡ min (by + from) 18446744073709551615) where
    pub length-after_shifted : length (after m xs) ≡ length (after from (shifted by xs))
    length-after_shifted = sym (ap length (after_shifted xs ok by from m sum) ∙ length-map (after m xs) (earlier by))

    pub places_shifted : (n : ℕ) → ended_by xs m + n ≡ ended_by xs by + (ended_by (shifted by xs) from + n)
    places_shifted n =
        omega (arith, ended_left xs by, ended_left xs m, ended_left (shifted by xs) from, length-after_shifted, length-map (after by xs) (earlier by))

  module _ (at from : ℕ) (early : from < at) where
    pub places_cut : ended_by xs from ≡ ended_by (cut_off at xs) from
    places_cut =
        sym (ap length (kept_map (λ s. leb (end s) from) (shortened at) (filter (λ s. ltb s.start at) xs))
        ∙ length-map (filter (λ s. leb (end (shortened at s)) from) (filter (λ s. ltb s.start at) xs)) (shortened at)
        ∙ ap length (kept_kept (λ s. leb (end (shortened at s)) from) (λ s. ltb s.start at) xs
        ∙ kept_same Limited (λ s. ltb s.start at && leb (end (shortened at s)) from) (λ s. leb (end s) from) (λ s l. let w = l.long in grind (arith, nat_tests)) xs ok.limited))

  -- no segment has ended by 0
  pub none_ended : ended_by xs 0 ≡ 0
  none_ended = ap length (kept_same Limited (λ s. leb (end s) 0) (λ s. false) (λ s l. let w = l.long in grind (arith, nat_tests)) xs ok.limited ∙ kept_nothing (λ s. false) xs (λ i d h. refl))
