use Rattle.std.proofs.Common.{sym, arith}
use Rattle.timeline.proofs.Walks.{told_run, untold_run}
use Rattle.timeline.proofs.even.calls.EvenTimeline.segment.Goals as goal

pub returns-then-place-self : goal.returns-then-place-self
returns-then-place-self c =
    let e = c.args.self.now in
    grind (arith, told_run e.first e.run c.args.place c.if-place-self.true)

pub returns-else-place-self : goal.returns-else-place-self
returns-else-place-self c =
    let e = c.args.self.now in
    sym (untold_run e.first e.run c.args.place c.if-place-self.false)
