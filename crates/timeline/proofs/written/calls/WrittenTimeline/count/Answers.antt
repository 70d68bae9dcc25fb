use Rattle.std.proofs.Common.{sym, ◌∙◌}
use Rattle.timeline.specs.Laws.Expands.{length-expanded}
use Rattle.timeline.proofs.written.calls.WrittenTimeline.count.Goals as goal

pub returns : goal.returns
returns c = let t = c.args.self.now in t.sum ∙ sym (length-expanded t.first t.runs.now)
