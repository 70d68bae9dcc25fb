use Rattle.std.proofs.Common.{arith}
use Rattle.timeline.specs.Layers.{shifted}
use Rattle.timeline.proofs.Layered.{within_all, length_shift}
use Rattle.timeline.proofs.Following.{ended_left, length-after_shifted}
use Rattle.timeline.proofs.shift.ShiftTimeline.ended.Goals as goal

pub returns : goal.returns
returns g c =
    let s = c.args.self.now in
    let xs = g.T.Timeline.segments s.below in
    let ok = g.T.Timeline.sound s.below in
    let m = c.saturating_add.result in
    let left = ended_left (shifted s.by xs) c.args.tick in
    let rest = length-after_shifted xs ok s.by c.args.tick m c.saturating_add.ensures in
    omega (arith, length_shift xs ok s.by, within_all xs ok m)
