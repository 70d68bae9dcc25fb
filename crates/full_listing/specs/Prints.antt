-- What is left of an output into which the line at a place is written.
use Rattle.std.specs.Prelude.{◌≡◌, ℕ, ◌<◌, ◌≤◌, Bool, true, false, List, [], length, take, Ok, Result, nat_le, slice_index_or}
use Rattle.output.specs.Text.{room, after, Puts}
use Rattle.output.specs.declared.NoRoom.{NoRoom}
use Rattle.output.specs.declared.Output.{Output}
use Rattle.full_listing.specs.Lines.{no_room_text, printed}
use Rattle.full_listing.specs.declared.printing.Printed.{Printed}
use Rattle.full_listing.specs.declared.printing.Printed.TheVariants.{Line, Last, End}

-- the line is put where it fits behind the mark. One that does not is refused, and what was put of it is written over
-- by the line of the refusal, put as far as there is room. Past the last line nothing changes.
pub record Prints (lines : List (List ℕ)) (place : ℕ) (bytes : List ℕ) (used : ℕ) (bytes' : List ℕ) (used' : ℕ) (r : Printed) : Type 0 where
  pub fits : place < length lines → length (slice_index_or lines place []) ≤ room bytes used → (r ≡ Line) × Puts bytes used (slice_index_or lines place []) bytes' used' (Ok tt)
  pub full : place < length lines → room bytes used < length (slice_index_or lines place []) → (r ≡ Last) × ((q : Result (Unit {0}) NoRoom) × Puts (after bytes used (slice_index_or lines place [])) used no_room_text bytes' used' q)
  pub past : length lines ≤ place → (r ≡ End) × (bytes' ≡ bytes) × (used' ≡ used)

abbrev pub is_end : Printed → Bool
is_end Line = false
is_end Last = false
is_end End = true

-- the lines before the place fit n bytes
abbrev pub Before : ℕ → List (List ℕ) → ℕ → Type 0
Before n lines place = (k : ℕ) → k < place → length (slice_index_or lines k []) ≤ n

-- what was written is the line at the place, and the answer says whether there is one
abbrev pub Answers : List (List ℕ) → ℕ → List ℕ → Printed → Type 0
Answers lines place written r = (written ≡ slice_index_or lines place []) × (is_end r ≡ nat_le (length lines) place)

-- an output with the mark 0 and at least the 11 bytes of a refusal's line holds before its mark, if the earlier lines fit
-- it too, what is printed at the place
abbrev pub Lawful : List (List ℕ) → ℕ → List ℕ → ℕ → List ℕ → ℕ → Printed → Type 0
Lawful lines place bytes used bytes' used' r =
    used ≡ 0 → 11 ≤ length bytes → Before (length bytes) lines place → Answers (printed (length bytes) lines) place (take used' bytes') r

-- both of an output before and after, which stays over the bytes that it was lent
pub record Written (lines : List (List ℕ)) (place : ℕ) (o p : Output) (r : Printed) : Type 0 where
  pub lent : p.bytes.ghost_name ≡ o.bytes.ghost_name
  pub prints : Prints lines place o.bytes.now o.mark.used p.bytes.now p.mark.used r
  pub law : Lawful lines place o.bytes.now o.mark.used p.bytes.now p.mark.used r
