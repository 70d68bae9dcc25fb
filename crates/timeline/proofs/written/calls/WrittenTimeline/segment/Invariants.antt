use Rattle.std.proofs.Common.{◌≡◌, ◌+◌, ◌-◌, ◌≤◌, drop}
use Rattle.timeline.specs.Segments.{told}
use Rattle.timeline.specs.Runs.{expanded}
use Rattle.timeline.proofs.written.calls.WrittenTimeline.segment.Given as goal

abbrev pub invariant-loop-run : goal.invariant-loop-run
invariant-loop-run l =
    let number = l.self.first + (l.place - l.left) in
    (l.left ≤ l.place)
    × (told (expanded l.self.first l.self.runs.now) l.place ≡ told (expanded number (drop l.run-index l.self.runs.now)) l.left)
