use Rattle.std.proofs.Common.{◌+◌, get_or, sym, refl, ap, ◌∙◌, arith}
use Rattle.timeline.specs.Segments.{blank, under_way}
use Rattle.timeline.specs.Laws.Splits.{counts_split, ended_within}
use Rattle.timeline.specs.Laws.Cuts.{begun_more, begun_same}
use Rattle.timeline.proofs.Asked.{begins_at, waits_at, within_is}
use Rattle.timeline.proofs.timeline.Timeline.within.Goals as goal

pub overflow_add-last : goal.overflow_add-last
overflow_add-last g c =
    let xs = g.Self.Timeline.segments c.args.self.now in
    let ok = g.Self.Timeline.sound c.args.self.now in
    omega (arith, ok.few, ended_within xs c.args.to c.ended-last.result c.ended-last.ensures)

pub returns-then-is_under_way : goal.returns-then-is_under_way
returns-then-is_under_way g c =
    let xs = g.Self.Timeline.segments c.args.self.now in
    let ok = g.Self.Timeline.sound c.args.self.now in
    let from = c.args.from in
    let to = c.args.to in
    let k = c.ended-first.result in
    let b = c.ended-last.result in
    let there = begins_at xs b to c.is_under_way.result (c.is_under_way.ensures ∙ ap (under_way to) c.segment.ensures) c.if-is_under_way.true in
    let split = counts_split xs ok from k c.ended-first.ensures in
    let begun = begun_more xs ok to b (counts_split xs ok to b c.ended-last.ensures) (get_or xs b blank) there.0 refl there.1 in
    c.saturating_sub.ensures ∙ sym (within_is xs from k split to (b + 1) begun)

pub returns-else-is_under_way : goal.returns-else-is_under_way
returns-else-is_under_way g c =
    let xs = g.Self.Timeline.segments c.args.self.now in
    let ok = g.Self.Timeline.sound c.args.self.now in
    let from = c.args.from in
    let to = c.args.to in
    let k = c.ended-first.result in
    let b = c.ended-last.result in
    let late = waits_at xs b to c.is_under_way.result (c.is_under_way.ensures ∙ ap (under_way to) c.segment.ensures) c.if-is_under_way.false in
    let split = counts_split xs ok from k c.ended-first.ensures in
    let begun = begun_same xs ok to b (counts_split xs ok to b c.ended-last.ensures) late in
    c.saturating_sub-else-is_under_way.ensures ∙ sym (within_is xs from k split to b begun)
