use Rattle.std.proofs.Common.{◌≡◌, ◌+◌, ap, arith}
use Rattle.timeline.specs.Segments.{ended_by, within_of}
use Rattle.timeline.specs.Layers.{shifted}
use Rattle.timeline.proofs.Layered.{within_none, within_shifted}
use Rattle.timeline.proofs.Following.{places_shifted}
use Rattle.timeline.proofs.Writes.{moved, refused}
use Rattle.timeline.proofs.addressed.ShiftAddressed.write_address_within.Goals as goal

pub returns-then-to-eq0 : goal.returns-then-to-eq0
returns-then-to-eq0 g c =
    let s = c.args.self.now in
    let ys = shifted s.by (g.T.Timeline.segments s.below) in
    let from = c.args.from in
    let e : c.args.to ≡ 0 = omega arith in
    let none = within_none ys from in
    rw c.into.ensures (refused (within_of ys from c.args.to) c.args.nth (g.T.Addressed.address s.below (ended_by (g.T.Timeline.segments s.below) s.by + (ended_by ys from + c.args.nth))) c.args.bytes.now c.args.mark.now.used (rw e (omega arith)))

pub returns : goal.returns
returns g c =
    let s = c.args.self.now in
    let xs = g.T.Timeline.segments s.below in
    let ok = g.T.Timeline.sound s.below in
    let ys = shifted s.by xs in
    let from = c.args.from in
    let to = c.args.to in
    let n = c.args.nth in
    let a = c.saturating_add-first.result in
    let b = c.saturating_add-last.result in
    let address = g.T.Addressed.address s.below in
    let same = within_shifted xs ok s.by from a c.saturating_add-first.ensures to b c.saturating_add-last.ensures (omega arith) in
    moved (within_of xs a b) (within_of ys from to) n n (address (ended_by xs a + n)) (address (ended_by xs s.by + (ended_by ys from + n))) c.args.bytes.now c.write_address_within.new.bytes c.args.mark.now.used c.write_address_within.new.mark.used c.write_address_within.result
    (λ h. omega arith) (λ h. omega arith) (λ _. ap address (places_shifted xs ok s.by from a c.saturating_add-first.ensures n)) c.write_address_within.ensures
