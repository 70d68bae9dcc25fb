-- What a manifest writes, and where it goes.
use Rattle.std.specs.Prelude.{◌≡◌, ℕ, ◌+◌, List, sum_by}
use Rattle.timeline.specs.Layers.{shifted, cut_off}
use Rattle.timeline.specs.Theorems.{part_before, part_after}
use Rattle.timeline.specs.declared.segment.Segment.{Segment}
use Rattle.presentation.specs.declared.sums.Sums.{Sums}

-- the lengths of all segments
abbrev pub lengths : List Segment → ℕ
lengths xs = sum_by (λ s. s.length) xs

-- the lengths that a cut at `period` over a shift by `offset` lists, the parts that it leaves out before and after,
-- and the lengths of the bottom timeline, which they add up to
pub record Accounts (bottom : List Segment) (offset period : ℕ) (s : Sums) : Type 0 where
  pub listed : s.listed ≡ lengths (cut_off period (shifted offset bottom))
  pub before : s.before ≡ sum_by (part_before offset) bottom
  pub after : s.after ≡ sum_by (part_after (offset + period)) bottom
  pub written : s.written ≡ lengths bottom
  pub whole : s.listed + s.before + s.after ≡ s.written
