use Rattle.std.proofs.Common.{◌≡◌, ◌+◌, ◌≤◌, drop}
use Rattle.timeline.specs.Runs.{many, fair_from}
use Rattle.timeline.proofs.written.calls.fair_total.Given as goal

abbrev pub invariant-loop-run : goal.invariant-loop-run
invariant-loop-run l =
    (fair_from 0 l.runs ≡ fair_from l.end (drop l.run-index l.runs))
    × (many l.runs ≡ l.total + many (drop l.run-index l.runs))
    × (l.total ≤ l.end)
    × (l.end ≤ 9007199254740992)
