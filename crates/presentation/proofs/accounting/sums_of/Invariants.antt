use Rattle.std.proofs.Common.{◌≡◌, ◌+◌, take, sum_by}
use Rattle.presentation.proofs.Wholes.{early, late, whole}
use Rattle.presentation.proofs.accounting.sums_of.Given as goal

abbrev pub invariant-runs : goal.invariant-runs
invariant-runs l =
    (l.before ≡ sum_by (early l.offset) (take l.run-index l.runs))
    × (l.after ≡ sum_by (late (l.offset + l.period)) (take l.run-index l.runs))
    × (l.written ≡ sum_by whole (take l.run-index l.runs))
