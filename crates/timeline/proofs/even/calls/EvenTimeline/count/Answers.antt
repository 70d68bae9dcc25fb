use Rattle.std.proofs.Common.{sym}
use Rattle.timeline.specs.Laws.Expands.{length_run}
use Rattle.timeline.proofs.even.calls.EvenTimeline.count.Goals as goal

pub returns : goal.returns
returns c = let e = c.args.self.now in sym (length_run e.first e.run)
