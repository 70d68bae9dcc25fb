use Rattle.std.proofs.Common.{◌≡◌}
use Rattle.head.specs.Sequences.{output_of, stood, Replays}
use Rattle.head.proofs.sequence.replay.Given as goal

abbrev pub invariant-loop-i : goal.invariant-loop-i
invariant-loop-i g l =
    (l.head.timescale ≡ l.timescale)
    × (l.head.place ≡ stood l.steps l.i)
    × Replays (g.T.Timeline.segments l.timeline) (g.T.Addressed.address l.timeline) l.timescale l.calls l.initial.steps l.steps (output_of l.initial.bytes l.initial.mark.used) (output_of l.bytes l.mark.used) l.i
