-- The number of each refusal.
use Rattle.std.specs.Prelude.{ℕ}
use Rattle.output.specs.Text.{number as room_number}
use Rattle.timeline.specs.declared.fault.NoSuchPlace.{NoSuchPlace}
use Rattle.timeline.specs.declared.fault.AddressFault.{AddressFault}
use Rattle.timeline.specs.declared.fault.AddressFault.TheVariants.{NoSuchPlace as missing, NoRoom as full}

abbrev pub number : NoSuchPlace → ℕ
number e = 46

abbrev pub address_number : AddressFault → ℕ
address_number (missing e) = number e
address_number (full e) = room_number e

-- the refusal of a place
abbrev pub no_such_place : NoSuchPlace
no_such_place = record {}
