use Rattle.std.proofs.Common.{◌+◌, arith}
use Rattle.timeline.specs.Laws.Splits.{counts_split}
use Rattle.timeline.specs.Laws.Tellings.{told_past}
use Rattle.timeline.proofs.Asked.{told_after}
use Rattle.timeline.proofs.timeline.Timeline.nth_after.Goals as goal

pub returns : goal.returns
returns g c =
    let xs = g.Self.Timeline.segments c.args.self.now in
    let ok = g.Self.Timeline.sound c.args.self.now in
    let k = c.ended.result in
    let i = c.args.nth in
    let split = counts_split xs ok c.args.from k c.ended.ensures in
    let few = ok.few in
    let here = told_past xs c.saturating_add.result in
    let there = told_past xs (k + i) in
    grind (arith, told_after xs c.args.from k split i)
