use Rattle.std.proofs.Common.{length, ap, ◌∙◌, arith}
use Rattle.timeline.specs.Layers.{cut_off}
use Rattle.timeline.proofs.Layered.{length_cutting, none_after}
use Rattle.timeline.proofs.Following.{ended_left, places_cut}
use Rattle.timeline.proofs.cut.CutTimeline.ended.Goals as goal

pub returns-then-tick-self : goal.returns-then-tick-self
returns-then-tick-self g c =
    let s = c.args.self.now in
    c.ended.ensures ∙ places_cut (g.T.Timeline.segments s.below) (g.T.Timeline.sound s.below) s.at c.args.tick c.if-tick-self.true

pub returns-else-tick-self : goal.returns-else-tick-self
returns-else-tick-self g c =
    let s = c.args.self.now in
    let xs = g.T.Timeline.segments s.below in
    let ok = g.T.Timeline.sound s.below in
    let left = ended_left (cut_off s.at xs) c.args.tick in
    omega (arith, length_cutting xs ok s.at, ap length (none_after xs ok s.at c.args.tick c.if-tick-self.false))
