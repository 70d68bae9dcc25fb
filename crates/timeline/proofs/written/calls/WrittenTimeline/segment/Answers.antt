use Rattle.std.proofs.Common.{◌≡◌, ◌+◌, ◌-◌, get_or, drop, Ok, sym, ap, ◌∙◌, arith}
use Rattle.timeline.specs.Segments.{told}
use Rattle.timeline.specs.Runs.{no_run, expanded}
use Rattle.timeline.proofs.Walks.{told_step, told_stop, limited_stop}
use Rattle.timeline.proofs.written.calls.WrittenTimeline.segment.Goals as goal

pub overflow_add-self : goal.overflow_add-self
overflow_add-self c = omega (arith, (limited_stop c.args.self.now c.args.place c.loop-run.left c.loop-run.run-index c.loop-run-test.true c.if-left-run.true c.loop-run.invariant.1).number)

pub nth-requires-clause-number : goal.nth-requires-clause-number
nth-requires-clause-number c = (limited_stop c.args.self.now c.args.place c.loop-run.left c.loop-run.run-index c.loop-run-test.true c.if-left-run.true c.loop-run.invariant.1).number

pub nth-requires-clause-start : goal.nth-requires-clause-start
nth-requires-clause-start c = omega (arith, (limited_stop c.args.self.now c.args.place c.loop-run.left c.loop-run.run-index c.loop-run-test.true c.if-left-run.true c.loop-run.invariant.1).within)

pub returns-then-left-run : goal.returns-then-left-run
returns-then-left-run c =
    let t = c.args.self.now in
    let left = c.loop-run.left in
    sym (c.loop-run.invariant.1 ∙ told_stop (t.first + (c.args.place - left)) t.runs.now c.loop-run.run-index no_run c.loop-run-test.true left c.if-left-run.true ∙ ap Ok (sym c.nth.ensures))

pub loop-run-preserved : goal.loop-run-preserved
loop-run-preserved c =
    let t = c.args.self.now in
    let i = c.loop-run.run-index in
    let left = c.loop-run.left in
    let number = t.first + (c.args.place - left) in
    let r = get_or t.runs.now i no_run in
    let e : number + r.count ≡ t.first + (c.args.place - (left - r.count)) = omega (arith, c.loop-run.invariant.0, c.if-left-run.false) in (
      omega (arith, c.loop-run.invariant.0),
      c.loop-run.invariant.1 ∙ told_step number t.runs.now i no_run c.loop-run-test.true left c.if-left-run.false
          ∙ ap (λ n. told (expanded n (drop (i + 1) t.runs.now)) (left - r.count)) e,
    )
