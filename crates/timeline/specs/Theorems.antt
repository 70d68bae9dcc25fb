-- What holds of every timeline.
use Rattle.std.specs.Prelude.{◌≡◌, ℕ, ◌+◌, ◌-◌, ◌<◌, min, max, true, List, length, sum_by, slice_index_or}
use Rattle.timeline.specs.declared.segment.Segment.{Segment}
use Rattle.timeline.specs.Segments.{end, blank, covers, Sound}
use Rattle.timeline.specs.Layers.{shifted, cut_off}

-- two places whose segments cover one tick are one place
abbrev pub AtMostOne : Type 0
AtMostOne = (xs : List Segment) → Sound xs → (tick i j : ℕ) → i < length xs → j < length xs →
    covers tick (slice_index_or xs i blank) ≡ true → covers tick (slice_index_or xs j blank) ≡ true → i ≡ j

-- the part of a segment before a tick, and the part after one
abbrev pub part_before : ℕ → Segment → ℕ
part_before tick s = min (end s) tick - min s.start tick

abbrev pub part_after : ℕ → Segment → ℕ
part_after tick s = max (end s) tick - max s.start tick

-- what is kept, what lies before the shift and what lies after the cut make up all that is below
abbrev pub PartsAddUp : Type 0
PartsAddUp = (xs : List Segment) (by at : ℕ) →
    sum_by (λ s. s.length) (cut_off at (shifted by xs)) + sum_by (part_before by) xs + sum_by (part_after (by + at)) xs ≡ sum_by (λ s. s.length) xs
