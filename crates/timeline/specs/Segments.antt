-- What a timeline means: a list of segments, within limits and in order.
use Rattle.std.specs.Prelude.{ℕ, zero, suc, ◌+◌, ◌^◌, ◌<◌, ◌≤◌, Bool, false, ◌&&◌, List, [], ◌∷◌, length, Ok, Err, filter, Result, nat_le, nat_lt, slice_index_or}
use Rattle.std.specs.List.{AllByRecursion}
use Rattle.timeline.specs.declared.segment.Segment.{Segment}
use Rattle.timeline.specs.declared.fault.NoSuchPlace.{NoSuchPlace}
use Rattle.timeline.specs.Refusals.{no_such_place}

-- a segment to read at a place that there is not
abbrev pub blank : Segment
blank = record { number = 0; start = 0; length = 0 }

-- where a segment ends
abbrev pub end : Segment → ℕ
end s = s.start + s.length

-- a segment covers a tick from its start up to before its end
abbrev pub covers : ℕ → Segment → Bool
covers tick s = nat_le s.start tick && nat_lt tick (end s)

-- the limits of one segment
pub record Limited (s : Segment) : Type 0 where
  pub number : s.number < 2 ^ 32
  pub long : 1 ≤ s.length
  pub within : end s ≤ 2 ^ 53

-- each segment's end is at most the start of the next
abbrev pub InOrder : List Segment → Type 0
InOrder xs = (i : ℕ) (d : Segment) → i + 1 < length xs → end (slice_index_or xs i d) ≤ (slice_index_or xs (i + 1) d).start

-- the limits and the order of a whole list
pub record Sound (xs : List Segment) : Type 0 where
  pub few : length xs < 2 ^ 31
  pub limited : AllByRecursion Limited xs
  pub order : InOrder xs

-- what is told of a place: the segment there, and a refusal where there is none
abbrev pub told : List Segment → ℕ → Result Segment NoSuchPlace
told [] i = Err no_such_place
told (x ∷ xs) zero = Ok x
told (x ∷ xs) (suc i) = told xs i

-- how many segments have ended by the tick
abbrev pub ended_by : List Segment → ℕ → ℕ
ended_by xs tick = length (filter (λ s. nat_le (end s) tick) xs)

-- how many segments start before the tick
abbrev pub begun_by : List Segment → ℕ → ℕ
begun_by xs tick = length (filter (λ s. nat_lt s.start tick) xs)

-- the segments that end after a tick
abbrev pub after : ℕ → List Segment → List Segment
after from xs = filter (λ s. nat_lt from (end s)) xs

-- a segment that ends after one tick and starts before another
abbrev pub meets : ℕ → ℕ → Segment → Bool
meets from to s = nat_lt from (end s) && nat_lt s.start to

-- how many such segments there are
abbrev pub within_of : List Segment → ℕ → ℕ → ℕ
within_of xs from to = length (filter (meets from to) xs)

-- whether a segment is told that has ended by the tick, and one that starts before it
abbrev pub over_by : ℕ → Result Segment NoSuchPlace → Bool
over_by tick (Ok s) = nat_le (end s) tick
over_by tick (Err e) = false

abbrev pub under_way : ℕ → Result Segment NoSuchPlace → Bool
under_way tick (Ok s) = nat_lt s.start tick
under_way tick (Err e) = false
