use Rattle.std.proofs.Common.{arith}
use Rattle.resolve.proofs.Order.{at_bandwidth, at_periods, at_last, presentation_unread, offset_unread}
use Rattle.resolve.proofs.preparing.read_numbers.Goals as goal

pub returns-in_err-bandwidth-clause-asked : goal.returns-in_err-bandwidth-clause-asked
returns-in_err-bandwidth-clause-asked c = at_bandwidth c.args.tree.now c.args.chosen.now c.args.position _ c.from_residual-in_err-bandwidth.ensures.0 (rw c.attribute.ensures.value at c.in_err-bandwidth.ensures.asked)

pub returns-in_err-read_periods-clause-asked : goal.returns-in_err-read_periods-clause-asked
returns-in_err-read_periods-clause-asked c = at_periods c.args.tree.now c.args.chosen.now c.args.position _ c.from_residual-in_err-read_periods.ensures.0 c.in_err-read_periods.ensures

pub returns-in_err-read_presentation-clause-asked : goal.returns-in_err-read_presentation-clause-asked
returns-in_err-read_presentation-clause-asked c = at_last c.args.tree.now c.args.chosen.now c.args.position _ c.from_residual-in_err-read_presentation.ensures.0 (presentation_unread c.args.tree.now c.args.chosen.now c.args.position (rw c.attribute-2.ensures.value at c.in_err-read_presentation.ensures))

pub returns-in_err-duration-clause-asked : goal.returns-in_err-duration-clause-asked
returns-in_err-duration-clause-asked c = at_last c.args.tree.now c.args.chosen.now c.args.position _ c.from_residual-in_err-duration.ensures.0 (grind arith)

pub returns-in_err-offset-clause-asked : goal.returns-in_err-offset-clause-asked
returns-in_err-offset-clause-asked c = at_last c.args.tree.now c.args.chosen.now c.args.position _ c.from_residual-in_err-offset.ensures.0 (offset_unread c.args.tree.now c.args.chosen.now c.args.position (rw c.templated-4.ensures at c.in_err-offset.ensures.asked))

pub returns-in_err-read_timeline-clause-asked : goal.returns-in_err-read_timeline-clause-asked
returns-in_err-read_timeline-clause-asked c = at_last c.args.tree.now c.args.chosen.now c.args.position _ c.from_residual-in_err-read_timeline.ensures.0 (grind arith)
