use Rattle.std.proofs.Common.{◌+◌, length, refl, arith}
use Rattle.timeline.specs.Segments.{ended_by, within_of}
use Rattle.timeline.specs.Layers.{shifted}
use Rattle.timeline.proofs.Layered.{length_shift}
use Rattle.timeline.proofs.Writes.{moved}
use Rattle.timeline.proofs.addressed.ShiftAddressed.write_address.Goals as goal

pub returns : goal.returns
returns g c =
    let s = c.args.self.now in
    let xs = g.T.Timeline.segments s.below in
    let ok = g.T.Timeline.sound s.below in
    let i = c.args.place in
    let text = g.T.Addressed.address s.below (ended_by xs s.by + i) in
    let long = length_shift xs ok s.by in
    moved (within_of xs s.by 18446744073709551615) (length (shifted s.by xs)) i i text text c.args.bytes.now c.write_address_within.new.bytes c.args.mark.now.used c.write_address_within.new.mark.used c.write_address_within.result
    (λ h. omega arith) (λ h. omega arith) (λ _. refl) c.write_address_within.ensures
