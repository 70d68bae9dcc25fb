use Rattle.std.proofs.Common.{ℕ, ◌-◌, ◌<◌, ◌≤◌, length, get_or}
use Rattle.timeline.specs.declared.segment.Segment.{Segment}
use Rattle.timeline.specs.Segments.{end}
use Rattle.timeline.proofs.timeline.Timeline.ended.Given as goal

abbrev pub invariant-loop-low : goal.invariant-loop-low
invariant-loop-low g l =
    let xs = g.Self.Timeline.segments l.self in
    (l.low ≤ l.high)
    × (l.high ≤ length xs)
    × ((i : ℕ) (d : Segment) → i < l.low → end (get_or xs i d) ≤ l.tick)
    × ((i : ℕ) (d : Segment) → l.high ≤ i → i < length xs → l.tick < end (get_or xs i d))

abbrev pub decreases-loop-low : goal.decreases-loop-low
decreases-loop-low g l = l.high - l.low
