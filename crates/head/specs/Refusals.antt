-- The number of each refusal.
use Rattle.std.specs.Prelude.{ℕ}
use Rattle.timeline.specs.declared.fault.AddressFault.{AddressFault}
use Rattle.timeline.specs.declared.fault.AddressFault.TheVariants.{NoSuchPlace as missing, NoRoom as full}
use Rattle.head.specs.declared.fault.HeadFault.{HeadFault}
use Rattle.head.specs.declared.fault.HeadFault.TheVariants.{OutOfRange, NoneCovers, TwoCover, Nowhere, NoNeighbour, NoRoom}

abbrev pub number : HeadFault → ℕ
number OutOfRange = 40
number NoneCovers = 41
number TwoCover = 42
number Nowhere = 43
number NoNeighbour = 44
number NoRoom = 45

-- a refusal of a timeline, as one of a head
abbrev pub of_address : AddressFault → HeadFault
of_address (missing e) = Nowhere
of_address (full e) = NoRoom
