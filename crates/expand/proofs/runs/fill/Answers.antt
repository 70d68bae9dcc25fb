use Rattle.std.proofs.Common.{◌≡◌, Some, map, sym, ap, ◌∙◌, arith}
use Rattle.tree.specs.Trees.{on}
use Rattle.expand.specs.Stating.{stated_at}
use Rattle.expand.proofs.Walks.{goes_on, fair}
use Rattle.expand.proofs.runs.fill.Goals as goal

pub rows-preserved : goal.rows-preserved
rows-preserved c =
    let inv = c.rows.invariant in
    let from : c.rows.free ≡ Some c.in_ok-from.from = grind arith in
    let next = ap (map (on stated_at c.args.tree.now)) c.in-Some.ensures.steps in
    let w = rw (next, sym c.stated_at-stated.ensures, from) at inv.walk in
    let p = c.in_ok-placed.ensures in
    record {
      walk = goes_on w p.answer c.push-pushed.result p.start p.count p.end c.run_of.ensures (cc) (rw inv.kept.capacity at c.push-pushed.ensures.answer);
      kept = record {
        capacity = c.push-pushed.ensures.capacity ∙ inv.kept.capacity;
        lent = c.push-pushed.ensures.lent ∙ inv.kept.lent;
        clean = λ z h. c.push-pushed.ensures.clean z (inv.kept.clean z h);
      };
    }

pub returns-clause-fair : goal.returns-clause-fair
returns-clause-fair c =
    let none = ap (map (on stated_at c.args.tree.now)) c.in-None.ensures.steps.0 in
    let w = rw none at c.rows.invariant.walk in
    fair c.args.first w c.in_ok-pushed.field-0 c.in_ok-pushed.was c.if-is_too_many.ensures
