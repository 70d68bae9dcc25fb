use Rattle.std.proofs.Common.{◌≡◌, ◌+◌, length, ap, arith}
use Rattle.timeline.specs.Segments.{ended_by, within_of}
use Rattle.timeline.specs.Layers.{cut_off}
use Rattle.timeline.proofs.Layered.{length_cutting}
use Rattle.timeline.proofs.Following.{none_ended}
use Rattle.timeline.proofs.Writes.{moved}
use Rattle.timeline.proofs.addressed.CutAddressed.write_address.Goals as goal

pub returns : goal.returns
returns g c =
    let s = c.args.self.now in
    let xs = g.T.Timeline.segments s.below in
    let ok = g.T.Timeline.sound s.below in
    let i = c.args.place in
    let address = g.T.Addressed.address s.below in
    let long = length_cutting xs ok s.at in
    let e : ended_by xs 0 + i ≡ i = omega (arith, none_ended xs ok) in
    moved (within_of xs 0 s.at) (length (cut_off s.at xs)) i i (address (ended_by xs 0 + i)) (address i) c.args.bytes.now c.write_address_within.new.bytes c.args.mark.now.used c.write_address_within.new.mark.used c.write_address_within.result
    (λ h. omega arith) (λ h. omega arith) (λ _. ap address e) c.write_address_within.ensures
