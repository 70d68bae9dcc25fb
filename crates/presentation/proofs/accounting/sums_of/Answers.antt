use Rattle.std.proofs.Common.{◌≡◌, ◌+◌, ◌≤◌, min, max, sum_by, ap, ◌∙◌, arith}
use Rattle.std.proofs.lemmas.List.{take_all}
use Rattle.std.proofs.lemmas.List.Sums.{sum_by_more}
use Rattle.timeline.specs.Runs.{no_run}
use Rattle.timeline.proofs.Walks.{fair_at}
use Rattle.presentation.proofs.Spans.{sum_room}
use Rattle.presentation.proofs.Wholes.{early, late, whole, parts_fit, accounts}
use Rattle.presentation.proofs.accounting.sums_of.Goals as goal

pub overflow_add-before : goal.overflow_add-before
overflow_add-before c = omega (arith, c.runs.invariant.0, sum_room (λ n. min n c.args.offset) (λ m n h. omega arith) c.args.runs.now c.requires c.runs.run-index no_run c.runs-test.true)

pub overflow_add-after : goal.overflow_add-after
overflow_add-after c = omega (arith, c.runs.invariant.1, sum_room (λ n. max n (c.args.offset + c.args.period)) (λ m n h. omega arith) c.args.runs.now c.requires c.runs.run-index no_run c.runs-test.true)

pub overflow_add-written : goal.overflow_add-written
overflow_add-written c = omega (arith, c.runs.invariant.2, sum_room (λ n. n) (λ m n h. omega arith) c.args.runs.now c.requires c.runs.run-index no_run c.runs-test.true)

pub runs-preserved : goal.runs-preserved
runs-preserved c =
    let runs = c.args.runs.now in
    let i = c.runs.run-index in
    let here = c.runs-test.true in
    let within = (fair_at 0 runs c.requires i no_run here).1 in (
      omega (arith, c.runs.invariant.0, sum_by_more (early c.args.offset) runs i no_run here),
      omega (arith, c.runs.invariant.1, sum_by_more (late (c.args.offset + c.args.period)) runs i no_run here),
      omega (arith, c.runs.invariant.2, sum_by_more whole runs i no_run here),
    )

-- at the end the sums are those of all runs
module _ (c : goal.After-runs) where
  all_before : c.runs.before ≡ sum_by (early c.args.offset) c.args.runs.now
  all_before = c.runs.invariant.0 ∙ ap (sum_by (early c.args.offset)) (take_all c.runs.run-index c.args.runs.now c.runs-test.false)

  all_after : c.runs.after ≡ sum_by (late (c.args.offset + c.args.period)) c.args.runs.now
  all_after = c.runs.invariant.1 ∙ ap (sum_by (late (c.args.offset + c.args.period))) (take_all c.runs.run-index c.args.runs.now c.runs-test.false)

  all_written : c.runs.written ≡ sum_by whole c.args.runs.now
  all_written = c.runs.invariant.2 ∙ ap (sum_by whole) (take_all c.runs.run-index c.args.runs.now c.runs-test.false)

  fit : c.runs.before + c.runs.after ≤ c.runs.written
  fit = omega (arith, all_before, all_after, all_written, parts_fit c.args.runs.now c.args.offset c.args.period)

pub overflow_sub-result : goal.overflow_sub-result
overflow_sub-result c = omega (arith, fit c)

pub overflow_sub-result-2 : goal.overflow_sub-result-2
overflow_sub-result-2 c = omega (arith, fit c)

pub returns : goal.returns
returns c = accounts c.args.runs.now c.args.offset c.args.period c.runs.before c.runs.after c.runs.written (all_before c) (all_after c) (all_written c)
