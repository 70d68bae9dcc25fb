use Rattle.std.proofs.Common.{subst}
use Rattle.presentation.specs.Lists.{bottom_of}
use Rattle.resolve.specs.Values.{values_of}
use Rattle.tables.specs.Rows.{held}
use Rattle.player.specs.Opening.{SumsOf}
use Rattle.player.proofs.Laid.{bottom_is}
use Rattle.player.proofs.Lengths.{sums_are}
use Rattle.player.proofs.screening.tally.Goals as goal

pub returns-clause-answer : goal.returns-clause-answer
returns-clause-answer c =
    let plan = c.in_ok-plan.plan in
    let opened = c.in_ok-plan.ensures in
    let rows = c.rows.result.now in
    let runs = held c.open.new.runs in
    let values = values_of plan in
    let sums = sums_are values runs (bottom_of plan rows) c.account.result (bottom_is plan rows runs c.rows.ensures opened.whole) c.account.ensures in
    (values, opened.answer, subst (λ left. SumsOf values left c.account.result) opened.left.runs.held sums)
