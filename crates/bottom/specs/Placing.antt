-- The segments and addresses of a bottom timeline.
use Rattle.std.specs.Prelude.{ℕ, Bool, true, false, List, [], slice_index_or}
use Rattle.std.proofs.Common.{arith}
use Rattle.address.specs.Joining.{address_of}
use Rattle.address.specs.declared.ExpandFault.{ExpandFault}
use Rattle.address.specs.declared.ExpandFault.TheVariants.{Broken, NoRoom as FullOf}
use Rattle.address.specs.declared.Parts.{Parts}
use Rattle.timeline.specs.Refusals.{no_such_place}
use Rattle.timeline.specs.Segments.{blank, Sound}
use Rattle.timeline.specs.declared.fault.AddressFault.{AddressFault}
use Rattle.timeline.specs.declared.fault.AddressFault.TheVariants.{NoSuchPlace as missing, NoRoom as full}
use Rattle.timeline.specs.declared.segment.Segment.{Segment}

-- the segments, none where the template is broken
abbrev pub unless : Bool → List Segment → List Segment
unless true xs = []
unless false xs = xs

-- the address of a place: the number and the start are those of the bottom timeline
abbrev pub address_at : Parts → List Segment → ℕ → List ℕ
address_at p xs place = address_of p (slice_index_or xs place blank).number (slice_index_or xs place blank).start

-- the refusal of a put, as one of an address; a broken template has no places
abbrev pub as_address_fault : ExpandFault → AddressFault
as_address_fault Broken = missing no_such_place
as_address_fault (FullOf e) = full e

sound_none : Sound []
sound_none = record { few = omega arith; limited = tt; order = λ i d h. absurd (omega arith) }

pub sound_unless : (t : Bool) (xs : List Segment) → Sound xs → Sound (unless t xs)
sound_unless true xs h = sound_none
sound_unless false xs h = h
