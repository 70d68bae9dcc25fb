-- What a sequence of calls does to a new head, and to an output.
use Rattle.std.specs.Prelude.{◌≡◌, ℕ, zero, suc, ◌+◌, ◌<◌, Bool, true, false, cond, ◌&&◌, ◌⊎◌, List, [], ◌∷◌, ◌++◌, length, take, drop, Some, None, Ok, Err, filter, Option, Result, slice_index_or}
use Rattle.timeline.specs.declared.segment.Segment.{Segment}
use Rattle.head.specs.declared.fault.HeadFault.{HeadFault}
use Rattle.head.specs.declared.step.Call.{Call}
use Rattle.head.specs.declared.step.Call.TheVariants.{Seek, On, Back, Address}
use Rattle.head.specs.declared.step.Step.{Step}
use Rattle.head.specs.Heads.{tick_of, sought, onward, backward, reply, arrived, Covered, Seeks, PutsAddress}

-- a call with its answer, and where the head stands after it
pub record Event : Type 0 where
  pub call : Call
  pub answer : Result (Unit {0}) HeadFault
  pub place : Option ℕ

-- the calls that have a step, each with it
abbrev pub events : List Call → List Step → List Event
events [] steps = []
events (call ∷ calls) [] = []
events (call ∷ calls) (step ∷ steps) = record { call = call; answer = step.answer; place = step.place } ∷ events calls steps

abbrev pub is_seek : Call → Bool
is_seek (Seek ms) = true
is_seek On = false
is_seek Back = false
is_seek Address = false

abbrev pub is_on : Call → Bool
is_on (Seek ms) = false
is_on On = true
is_on Back = false
is_on Address = false

abbrev pub is_back : Call → Bool
is_back (Seek ms) = false
is_back On = false
is_back Back = true
is_back Address = false

abbrev pub is_address : Call → Bool
is_address (Seek ms) = false
is_address On = false
is_address Back = false
is_address Address = true

abbrev pub went_through : Result (Unit {0}) HeadFault → Bool
went_through (Ok u) = true
went_through (Err e) = false

-- how many calls of a kind went through
abbrev pub through : (Call → Bool) → List Event → ℕ
through kind es = length (filter (λ e. kind e.call && went_through e.answer) es)

-- the address of a place
abbrev pub address_at : (ℕ → List ℕ) → Option ℕ → List ℕ
address_at address None = []
address_at address (Some p) = address p

-- the address that an event wrote, if it did
abbrev pub written_by : (ℕ → List ℕ) → Event → List ℕ
written_by address e = cond (is_address e.call && went_through e.answer) (address_at address e.place) []

-- the addresses that were written, one after another
abbrev pub addresses : (ℕ → List ℕ) → List Event → List ℕ
addresses address [] = []
addresses address (e ∷ es) = written_by address e ++ addresses address es

-- the events since the last seek that went through move the head from the place that it found
pub record Moves (xs : List Segment) (timescale : ℕ) (es : List Event) (place : Option ℕ) : Type 0 where
  pub before : List Event
  pub ms : ℕ
  pub since : List Event
  pub found : ℕ
  pub at : ℕ
  pub split : es ≡ before ++ (record { call = Seek ms; answer = Ok tt; place = Some found } ∷ since)
  pub last : through is_seek since ≡ 0
  pub covered : Covered xs (tick_of timescale ms) found
  pub stands : place ≡ Some at
  pub sum : at + through is_back since ≡ found + through is_on since
  pub there : at < length xs

-- where a head stands after the events: nowhere until a seek goes through
abbrev pub Stands : List Segment → ℕ → List Event → Option ℕ → Type 0
Stands xs timescale es place = ((through is_seek es ≡ 0) × (place ≡ None)) ⊎ Moves xs timescale es place

-- an output: its bytes, and how many of them are used
pub record Output : Type 0 where
  pub bytes : List ℕ
  pub used : ℕ

abbrev pub output_of : List ℕ → ℕ → Output
output_of bytes used = record { bytes = bytes; used = used }

-- what a call answers from the place where the head stood, and what it leaves of the output:
-- the place before, the call, the answer, the place after, and the output before and after
abbrev pub Obeys : List Segment → (ℕ → List ℕ) → ℕ → Option ℕ → Call → Result (Unit {0}) HeadFault → Option ℕ → Output → Output → Type 0
Obeys xs address timescale place (Seek ms) r place' o o' = Seeks xs timescale ms place' r × (o' ≡ o)
Obeys xs address timescale place On r place' o o' = (r ≡ reply (onward xs place)) × (o' ≡ o)
Obeys xs address timescale place Back r place' o o' = (r ≡ reply (backward xs place)) × (o' ≡ o)
Obeys xs address timescale place Address r place' o o' = PutsAddress xs address place o.bytes o.used o'.bytes o'.used r

-- where a call leaves the head
abbrev pub left_at : List Segment → ℕ → Option ℕ → Call → Option ℕ
left_at xs timescale place (Seek ms) = arrived place (sought xs timescale ms)
left_at xs timescale place On = arrived place (onward xs place)
left_at xs timescale place Back = arrived place (backward xs place)
left_at xs timescale place Address = place

-- a step to read where there is none
abbrev pub no_step : Step
no_step = record { answer = Ok tt; place = None }

-- where the head stood before the call at k
abbrev pub stood : List Step → ℕ → Option ℕ
stood steps zero = None
stood steps (suc k) = (slice_index_or steps k no_step).place

-- the first n calls on a new head: the steps and the output before, and the steps and the output after
pub record Replays (xs : List Segment) (address : ℕ → List ℕ) (timescale : ℕ) (calls : List Call) (steps steps' : List Step) (o o' : Output) (n : ℕ) : Type 0 where
  -- after each call the head stands where the events so far have brought it
  pub places : (k : ℕ) → k < n → Stands xs timescale (take (k + 1) (events calls steps')) (slice_index_or steps' k no_step).place
  -- the outputs after each call, of which the last is the one at the end
  pub outputs : List Output
  pub many : length outputs ≡ n
  pub end : slice_index_or (o ∷ outputs) n o ≡ o'
  -- each call obeys, from where the head stood and from the output as it was
  pub obeys : (k : ℕ) → k < n → Obeys xs address timescale (stood steps' k) (slice_index_or calls k (Seek 0)) (slice_index_or steps' k no_step).answer (slice_index_or steps' k no_step).place (slice_index_or (o ∷ outputs) k o) (slice_index_or (o ∷ outputs) (k + 1) o)
  -- the addresses that were written stand one after another behind the mark at the start, up to the mark at the end
  pub mark : o'.used ≡ o.used + length (addresses address (take n (events calls steps')))
  pub written : take o'.used o'.bytes ≡ take o.used o.bytes ++ addresses address (take n (events calls steps'))
  -- the steps behind are unchanged
  pub behind : drop n steps' ≡ drop n steps
