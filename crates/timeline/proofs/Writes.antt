-- One write of an address, as asked of the timeline below and of a layer over it.
use Rattle.std.proofs.Common.{◌≡◌, ℕ, ◌<◌, ◌≤◌, List, Err, Result, refl, arith}
use Rattle.output.specs.declared.NoRoom.{NoRoom}
use Rattle.output.specs.Text.{Puts}
use Rattle.timeline.specs.declared.fault.AddressFault.{AddressFault}
use Rattle.timeline.specs.declared.fault.AddressFault.TheVariants.{NoSuchPlace as missing}
use Rattle.timeline.specs.Refusals.{no_such_place}
use Rattle.timeline.specs.Addresses.{Addressing, raised}

-- another place, which is there exactly if the first is, with the same text
pub moved : (m n i j : ℕ) (a b bytes bytes' : List ℕ) (used used' : ℕ) (r : Result (Unit {0}) AddressFault) → (j < n → i < m) → (n ≤ j → m ≤ i) → (j < n → a ≡ b) → Addressing m i a bytes used bytes' used' r → Addressing n j b bytes used bytes' used' r
moved m n i j a b bytes bytes' used used' r there past same w = record {
  there = λ h. let e = same h in rw (← e) (w.there (there h));
  past = λ h. w.past (past h);
}

-- a place that is not there
pub refused : (n j : ℕ) (b bytes : List ℕ) (used : ℕ) → n ≤ j → Addressing n j b bytes used bytes used (Err (missing no_such_place))
refused n j b bytes used h = record { there = λ l. absurd (omega arith); past = λ _. (refl, refl, refl) }

-- a place that is there, whose text is put
pub wrote : (n j : ℕ) (text bytes bytes' : List ℕ) (used used' : ℕ) (q : Result (Unit {0}) NoRoom) → j < n → Puts bytes used text bytes' used' q → Addressing n j text bytes used bytes' used' (raised q)
wrote n j text bytes bytes' used used' q h puts = record { there = λ _. (q, puts, refl); past = λ l. absurd (omega arith) }
