use Rattle.std.proofs.Common.{◌≡◌, ◌+◌, min, sym, ap, ◌∙◌, arith}
use Rattle.std.proofs.lemmas.Result.{MatchResult-from_err}
use Rattle.tree.specs.Trees.{on}
use Rattle.periods.specs.Starts.{periods}
use Rattle.periods.proofs.Asks.{unread_by, take_cut, unread_here, read_here}
use Rattle.periods.proofs.Steps.{periods_few}
use Rattle.periods.proofs.read_periods.Goals as goal

pub periods-init : goal.periods-init
periods-init c =
    let t = c.args.tree.now in
    let count : c.into_iter-row-iterator.result.n ≡ min (c.args.position + 2) 18446744073709551615 = cc in
    let rows : c.into_iter-row-iterator.result.iter ≡ on periods t = cc in
    let few = periods_few t.manifest.now t.elements.now t.attributes.now in
    rw (count, rows) (ap (on unread_by t) (sym (take_cut (c.args.position + 2) 18446744073709551615 (on periods t) (omega arith))))

pub periods-preserved : goal.periods-preserved
periods-preserved c =
    let t = c.args.tree.now in
    let taken = c.in-Some.ensures.steps in
    c.periods.invariant ∙ read_here t.manifest.now t.elements.now t.attributes.now _ _ _ _ _ taken.0 taken.1 c.in_ok-read_period.ensures

pub returns-in_err-read_period : goal.returns-in_err-read_period
returns-in_err-read_period c =
    let t = c.args.tree.now in
    let taken = c.in-Some.ensures.steps in
    let bad = c.periods.invariant ∙ unread_here t.manifest.now t.elements.now t.attributes.now _ _ _ _ _ taken.0 taken.1 c.in_err-read_period.ensures in
    MatchResult-from_err _ _ _ c.from_residual.ensures.0 (λ _. bad)
