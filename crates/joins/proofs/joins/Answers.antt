-- The steps are those of the walk, which tells whether the parts can be joined.
use Rattle.std.proofs.Common.{not, ◌&&◌, ap, ◌∙◌}
use Rattle.joins.specs.Joints.{unjoinable}
use Rattle.joins.specs.Steps.{stepped}
use Rattle.joins.proofs.Walks.{walked_tells, each_same}
use Rattle.joins.proofs.joins.Goals as goal

pub returns-then-is_broken-clause-each : goal.returns-then-is_broken-clause-each
returns-then-is_broken-clause-each c = each_same c.args.parts.now

pub returns-clause-value : goal.returns-clause-value
returns-clause-value c =
    let p = c.args.parts.now in
    let representation = c.step.ensures ∙ ap (λ w. stepped w p.representation) c.at_template.ensures in
    let set = c.step-2.ensures ∙ ap (λ w. stepped w p.set) representation in
    let period = c.step-3.ensures ∙ ap (λ w. stepped w p.period) set in
    let mpd = c.step-walk.ensures ∙ ap (λ w. stepped w p.mpd) period in
    ap (λ w. not w.misfit) mpd ∙ ap not (walked_tells p 0 0)
    ∙ ap (λ b. not b && not (unjoinable p 0 0)) c.if-is_broken.ensures.value

pub returns-clause-each : goal.returns-clause-each
returns-clause-each c = each_same c.args.parts.now
