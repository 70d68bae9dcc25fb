use Rattle.std.proofs.Common.{◌≡◌, ℕ, ◌^◌, ◌<◌, length, IfSome, None, Option, sym, refl, ap, ◌∙◌, subst, arith}
use Rattle.std.proofs.lemmas.Bool.{cond_below, cond_above}
use Rattle.tree.specs.Trees.{on}
use Rattle.periods.specs.Starts.{periods, start_of}
use Rattle.periods.proofs.Sizes.{always, start_fits}
use Rattle.periods.proofs.Steps.{here, past, periods_few, start_here, following_here}
use Rattle.periods.proofs.start_of.Goals as goal
use Rattle.periods.proofs.start_of.Goals.{After-or-start}

pub periods-init : goal.periods-init
periods-init c = (omega arith, record { left = sym c.children-left.ensures; before = refl })

-- the Period that is passed starts as it should
starts : (c : After-or-start) → c.or-start.result ≡ on start_of c.args.tree.now c.periods.counter
starts c =
    let t = c.args.tree.now in
    let m = t.manifest.now in
    let es = t.elements.now in
    let xs = t.attributes.now in
    let i = c.periods.counter in
    let walked = c.periods.invariant.1 in
    let at = here m es xs i c.in_ok-before.before _ _ walked.left c.in_ok-before.ensures.steps in
    start_here m es xs i c.in_ok-before.before at.1 c.or-start.result c.periods.following c.stated.result c.stated.ensures.value walked.before c.or-start.ensures

pub sum-following-requires-clause-a : goal.sum-following-requires-clause-a
sum-following-requires-clause-a c =
    let t = c.args.tree.now in
    let F : Option ℕ → Type 0 = λ o. IfSome o (λ n. n < 2 ^ 127) in
    subst F (sym (starts (goal.at.sum-following-requires-clause-a c).After-or-start)) (start_fits t.manifest.now t.elements.now t.attributes.now c.periods.counter (omega arith))

pub periods-preserved : goal.periods-preserved
periods-preserved c =
    let t = c.args.tree.now in
    let m = t.manifest.now in
    let es = t.elements.now in
    let xs = t.attributes.now in
    let i = c.periods.counter in
    let at = here m es xs i c.in_ok-before.before _ _ c.periods.invariant.1.left c.in_ok-before.ensures.steps in
    let is = starts (goal.at.periods-preserved c).After-or-start in
    let next = following_here m es xs i c.in_ok-before.before at.1 c.or-start.result c.stated-in-periods.result c.sum-following.result is c.stated-in-periods.ensures.value c.sum-following.ensures in
    (omega (arith, c.periods-test.true), record { left = at.2; before = next })

pub returns-in_err-before-clause-start : goal.returns-in_err-before-clause-start
returns-in_err-before-clause-start c =
    let t = c.args.tree.now in
    let end = past t.manifest.now t.elements.now t.attributes.now c.periods.counter _ c.periods.invariant.1.left c.in_err-before.ensures.steps.0 in
    cond_above c.args.position (length (on periods t)) (on start_of t c.args.position) None c.from_residual.result (omega (arith, c.periods-test.true)) c.from_residual.ensures

pub returns-in_err-row-clause-start : goal.returns-in_err-row-clause-start
returns-in_err-row-clause-start c =
    let t = c.args.tree.now in
    let end = past t.manifest.now t.elements.now t.attributes.now c.periods.counter _ c.periods.invariant.1.left c.in_err-row.ensures.steps.0 in
    cond_above c.args.position (length (on periods t)) (on start_of t c.args.position) None c.from_residual-in_err-row.result (omega (arith, c.periods-test.false)) c.from_residual-in_err-row.ensures

pub returns-clause-start : goal.returns-clause-start
returns-clause-start c =
    let t = c.args.tree.now in
    let m = t.manifest.now in
    let es = t.elements.now in
    let xs = t.attributes.now in
    let same : c.periods.counter ≡ c.args.position = omega (arith, c.periods-test.false, c.periods.invariant.0) in
    let at = here m es xs c.periods.counter c.in_ok-row.row _ _ c.periods.invariant.1.left c.in_ok-row.ensures.steps in
    let is = start_here m es xs c.periods.counter c.in_ok-row.row at.1 c.or.result c.periods.following c.stated-2.result c.stated-2.ensures.value c.periods.invariant.1.before c.or.ensures in
    let there : c.args.position < length (periods m es xs) = omega (arith, at.0) in
    is ∙ ap (start_of m es xs) same ∙ cond_below c.args.position (length (periods m es xs)) (start_of m es xs c.args.position) None there

pub returns-clause-within : goal.returns-clause-within
returns-clause-within c =
    let t = c.args.tree.now in
    let m = t.manifest.now in
    let es = t.elements.now in
    let xs = t.attributes.now in
    let at = here m es xs c.periods.counter c.in_ok-row.row _ _ c.periods.invariant.1.left c.in_ok-row.ensures.steps in
    let few = periods_few m es xs in
    always c.or.result (c.args.position < length es) (omega (arith, at.0, c.periods-test.false))
