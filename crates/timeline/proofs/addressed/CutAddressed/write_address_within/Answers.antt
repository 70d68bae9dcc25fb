use Rattle.std.proofs.Common.{◌+◌, ap, arith}
use Rattle.timeline.specs.Segments.{ended_by, within_of}
use Rattle.timeline.specs.Layers.{cut_off}
use Rattle.timeline.proofs.Layered.{within_cut, within_past}
use Rattle.timeline.proofs.Following.{places_cut}
use Rattle.timeline.proofs.Writes.{moved, refused}
use Rattle.timeline.proofs.addressed.CutAddressed.write_address_within.Goals as goal

pub returns-then-from-self : goal.returns-then-from-self
returns-then-from-self g c =
    let s = c.args.self.now in
    let xs = g.T.Timeline.segments s.below in
    let ok = g.T.Timeline.sound s.below in
    let ys = cut_off s.at xs in
    let from = c.args.from in
    let none = within_past xs ok s.at from c.args.to c.if-from-self.true in
    rw c.into.ensures (refused (within_of ys from c.args.to) c.args.nth (g.T.Addressed.address s.below (ended_by ys from + c.args.nth)) c.args.bytes.now c.args.mark.now.used (omega arith))

pub returns : goal.returns
returns g c =
    let s = c.args.self.now in
    let xs = g.T.Timeline.segments s.below in
    let ok = g.T.Timeline.sound s.below in
    let ys = cut_off s.at xs in
    let from = c.args.from in
    let to = c.args.to in
    let n = c.args.nth in
    let least = c.min.result in
    let address = g.T.Addressed.address s.below in
    let early = c.if-from-self.false in
    let same = within_cut xs ok s.at from to least c.min.ensures early in
    moved (within_of xs from least) (within_of ys from to) n n (address (ended_by xs from + n)) (address (ended_by ys from + n)) c.args.bytes.now c.write_address_within.new.bytes c.args.mark.now.used c.write_address_within.new.mark.used c.write_address_within.result
    (λ h. omega arith) (λ h. omega arith) (λ _. ap (λ p. address (p + n)) (places_cut xs ok s.at from early)) c.write_address_within.ensures
