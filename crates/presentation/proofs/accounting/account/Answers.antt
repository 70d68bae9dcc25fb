use Rattle.std.proofs.Common.{sym, ◌∙◌}
use Rattle.template.specs.Reading.{broken}
use Rattle.presentation.specs.Lists.{of_bottom}
use Rattle.presentation.proofs.Evened.{evened, accounts_even}
use Rattle.presentation.proofs.accounting.account.Goals as goal

pub sums_of-requires-in-Even : goal.sums_of-requires-in-Even
sums_of-requires-in-Even c =
    let p = c.args.plan.now in
    (evened p.kind p.first c.in-Even.length p.period c.count-count.result c.args.runs.now c.in-Even.is c.if-count-eq0.false (of_bottom c.bottom_of.result) c.count-count.ensures c.bottom_of.ensures).fair_one

pub returns-in-Even : goal.returns-in-Even
returns-in-Even c =
    let p = c.args.plan.now in
    let whole = sym c.is_broken.ensures.value ∙ c.if-is_broken.false in
    let one = evened p.kind p.first c.in-Even.length p.period c.count-count.result c.args.runs.now c.in-Even.is c.if-count-eq0.false (of_bottom c.bottom_of.result) c.count-count.ensures c.bottom_of.ensures in
    accounts_even (broken p.parts.template.now) p.kind p.first c.in-Even.length p.period c.count-count.result p.offset c.args.runs.now c.sums_of-in-Even.result whole c.in-Even.is one (c.sums_of-in-Even.ensures p.first)
