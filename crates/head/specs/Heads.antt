-- Where a head goes, and what its calls answer, over the list that a timeline means.
use Rattle.std.specs.Prelude.{◌≡◌, ℕ, ◌+◌, ◌-◌, ◌*◌, ◌/◌, ◌<◌, ◌≤◌, Bool, true, false, cond, ◌&&◌, List, [], ◌∷◌, length, Some, None, Ok, Err, filter, Option, Result, nat_le, nat_lt, slice_index_or}
use Rattle.std.specs.List.{range_with_len}
use Rattle.output.specs.declared.NoRoom.{NoRoom}
use Rattle.output.specs.Text.{Puts}
use Rattle.timeline.specs.declared.segment.Segment.{Segment}
use Rattle.timeline.specs.Segments.{blank, covers}
use Rattle.head.specs.declared.fault.HeadFault.{HeadFault}
use Rattle.head.specs.declared.fault.HeadFault.TheVariants.{OutOfRange, NoneCovers, TwoCover, Nowhere, NoNeighbour, NoRoom as full}
use Rattle.head.specs.declared.head.Head.{Head}

-- the times that may be sought, and the timescales to seek with
abbrev pub seekable : ℕ → ℕ → Bool
seekable timescale ms = nat_le ms 100000000000 && (nat_le 1 timescale && nat_le timescale 10000000)

-- the tick of a time in milliseconds, rounded down
abbrev pub tick_of : ℕ → ℕ → ℕ
tick_of timescale ms = ms * timescale / 1000

-- the places whose segment covers the tick
abbrev pub covering : List Segment → ℕ → List ℕ
covering xs tick = filter (λ i. covers tick (slice_index_or xs i blank)) (range_with_len 0 (length xs))

-- where a call goes: to a place, or nowhere, with the refusal
pub data Way : Type 0 where
  to : ℕ → Way
  refused : HeadFault → Way

-- the one place of a list that has one
abbrev pub the_only : List ℕ → Way
the_only [] = refused NoneCovers
the_only (p ∷ []) = to p
the_only (p ∷ q ∷ ps) = refused TwoCover

-- where seek goes
abbrev pub sought : List Segment → ℕ → ℕ → Way
sought xs timescale ms = cond (seekable timescale ms) (the_only (covering xs (tick_of timescale ms))) (refused OutOfRange)

-- the place where a head stands on the timeline
abbrev pub standing : List Segment → Option ℕ → Way
standing xs None = refused Nowhere
standing xs (Some p) = cond (nat_lt p (length xs)) (to p) (refused Nowhere)

-- from a place to the next, and to the one before
abbrev pub next_of : List Segment → Way → Way
next_of xs (to p) = cond (nat_lt (p + 1) (length xs)) (to (p + 1)) (refused NoNeighbour)
next_of xs (refused e) = refused e

abbrev pub before_of : Way → Way
before_of (to p) = cond (nat_lt 0 p) (to (p - 1)) (refused NoNeighbour)
before_of (refused e) = refused e

-- where on goes, and where back goes
abbrev pub onward : List Segment → Option ℕ → Way
onward xs place = next_of xs (standing xs place)

abbrev pub backward : List Segment → Option ℕ → Way
backward xs place = before_of (standing xs place)

-- the way that an answer with a place shows
abbrev pub found : Result ℕ HeadFault → Way
found (Ok p) = to p
found (Err e) = refused e

-- the answer of a call that goes a way
abbrev pub reply : Way → Result (Unit {0}) HeadFault
reply (to p) = Ok tt
reply (refused e) = Err e

-- where a head stands after it: a refusal leaves the head as it is
abbrev pub arrived : Option ℕ → Way → Option ℕ
arrived place (to p) = Some p
arrived place (refused e) = place

abbrev pub moved : Head → Way → Head
moved h w = record { timescale = h.timescale; place = arrived h.place w }

-- the segment at a place covers the tick
pub record Covered (xs : List Segment) (tick p : ℕ) : Type 0 where
  pub there : p < length xs
  pub covering : covers tick (slice_index_or xs p blank) ≡ true

-- a seek out of range is refused, and else one segment or none covers the tick: at one the head stands at its place
pub record Seeks (xs : List Segment) (timescale ms : ℕ) (place : Option ℕ) (r : Result (Unit {0}) HeadFault) : Type 0 where
  pub out : seekable timescale ms ≡ false → r ≡ Err OutOfRange
  pub few : length (covering xs (tick_of timescale ms)) ≤ 1
  pub one : seekable timescale ms ≡ true → length (covering xs (tick_of timescale ms)) ≡ 1 →
      (r ≡ Ok tt) × ((p : ℕ) × (place ≡ Some p) × Covered xs (tick_of timescale ms) p)
  pub none : seekable timescale ms ≡ true → length (covering xs (tick_of timescale ms)) ≡ 0 → r ≡ Err NoneCovers
  pub never : r ≡ Err TwoCover → ⊥

-- the answer of a write, with a refusal taken for one of a head
abbrev pub raised : Result (Unit {0}) NoRoom → Result (Unit {0}) HeadFault
raised (Ok u) = Ok u
raised (Err e) = Err full

-- the address of the place where a head stands is put behind the mark, and where it stands nowhere nothing changes:
-- the list, the addresses, the place, the bytes and the mark before, the bytes and the mark after, and the answer
pub record PutsAddress (xs : List Segment) (address : ℕ → List ℕ) (place : Option ℕ) (bytes : List ℕ) (used : ℕ) (bytes' : List ℕ) (used' : ℕ) (r : Result (Unit {0}) HeadFault) : Type 0 where
  pub there : (p : ℕ) → standing xs place ≡ to p → (q : Result (Unit {0}) NoRoom) × Puts bytes used (address p) bytes' used' q × (r ≡ raised q)
  pub nowhere : standing xs place ≡ refused Nowhere → (r ≡ Err Nowhere) × (bytes' ≡ bytes) × (used' ≡ used)
