-- What a shift and a cut make of the list below them.
use Rattle.std.specs.Prelude.{ℕ, ◌-◌, min, Bool, cond, List, map, Ok, Err, filter, Result, nat_lt}
use Rattle.timeline.specs.declared.segment.Segment.{Segment}
use Rattle.timeline.specs.declared.fault.NoSuchPlace.{NoSuchPlace}
use Rattle.timeline.specs.Refusals.{no_such_place}
use Rattle.timeline.specs.Segments.{end, after}

-- the segment from one tick to another
abbrev pub spanning : ℕ → ℕ → ℕ → Segment
spanning number from to = record { number = number; start = from; length = to - from }

-- `by` taken from the start and from the end, neither below 0
abbrev pub earlier : ℕ → Segment → Segment
earlier by s = spanning s.number (s.start - by) (end s - by)

-- the segments that end after `by`, earlier by that much
abbrev pub shifted : ℕ → List Segment → List Segment
shifted by xs = map (earlier by) (after by xs)

-- the end at most at `at`
abbrev pub shortened : ℕ → Segment → Segment
shortened at s = spanning s.number s.start (min (end s) at)

-- the segments that start before `at`, ended there
abbrev pub cut_off : ℕ → List Segment → List Segment
cut_off at xs = map (shortened at) (filter (λ s. nat_lt s.start at) xs)

-- what is told, changed, and only where it passes a test
abbrev pub mapped : (Segment → Segment) → Result Segment NoSuchPlace → Result Segment NoSuchPlace
mapped f (Ok s) = Ok (f s)
mapped f (Err e) = Err e

abbrev pub only : (Segment → Bool) → Result Segment NoSuchPlace → Result Segment NoSuchPlace
only p (Ok s) = cond (p s) (Ok s) (Err no_such_place)
only p (Err e) = Err e
