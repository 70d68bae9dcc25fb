use Rattle.std.proofs.Common.{◌+◌}
use Rattle.bottom.specs.Placing.{unless, address_at}
use Rattle.head.specs.Sequences.{output_of}
use Rattle.presentation.specs.Lists.{of_bottom}
use Rattle.tables.specs.Rows.{held}
use Rattle.timeline.specs.Layers.{shifted, cut_off}
use Rattle.timeline.specs.Segments.{ended_by}
use Rattle.player.proofs.Laid.{replays_laid}
use Rattle.player.proofs.screening.perform.Goals as goal

pub returns : goal.returns
returns c =
    let t = c.lay_out-timeline.result in
    let laid = c.lay_out-timeline.ensures in
    let plan = c.args.plan in
    let xs = unless t.below.below.torn (of_bottom t.below.below.below) in
    record {
      count = c.replay.ensures.count;
      law =
          replays_laid plan c.rows.result.now (held c.args.runs.now) c.rows.ensures c.requires
          (cut_off t.at (shifted t.below.by xs))
          (λ place. address_at t.below.below.parts (of_bottom t.below.below.below) (ended_by xs t.below.by + place))
          laid.list laid.address plan.timescale c.args.calls.now c.args.steps.now c.replay.new.steps
          (output_of c.args.bytes.now c.args.mark.now.used) (output_of c.replay.new.bytes c.replay.new.mark.used) c.replay.result c.replay.ensures.law;
    }
