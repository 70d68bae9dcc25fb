-- What writing an address leaves.
use Rattle.std.specs.Prelude.{◌≡◌, ℕ, ◌<◌, ◌≤◌, List, Ok, Err, Result}
use Rattle.output.specs.declared.NoRoom.{NoRoom}
use Rattle.output.specs.Text.{Puts}
use Rattle.timeline.specs.declared.fault.AddressFault.{AddressFault}
use Rattle.timeline.specs.declared.fault.AddressFault.TheVariants.{NoSuchPlace as missing, NoRoom as full}
use Rattle.timeline.specs.Refusals.{no_such_place}

-- the answer of a write, with a refusal taken for one of an address
abbrev pub raised : Result (Unit {0}) NoRoom → Result (Unit {0}) AddressFault
raised (Ok u) = Ok u
raised (Err e) = Err (full e)

-- the text of a place is put behind the mark, and where the count does not reach the place nothing changes:
-- the count, the place, the text, the bytes and the mark before, the bytes and the mark after, and the answer
pub record Addressing (count place : ℕ) (text bytes : List ℕ) (used : ℕ) (bytes' : List ℕ) (used' : ℕ) (r : Result (Unit {0}) AddressFault) : Type 0 where
  pub there : place < count → (q : Result (Unit {0}) NoRoom) × Puts bytes used text bytes' used' q × (r ≡ raised q)
  pub past : count ≤ place → (r ≡ Err (missing no_such_place)) × (bytes' ≡ bytes) × (used' ≡ used)
