use Rattle.std.proofs.Common.{ℕ, ◌+◌, sym}
use Rattle.bottom.specs.Placing.{unless, address_at}
use Rattle.presentation.specs.Lists.{timeline_of, addresses_of, of_bottom}
use Rattle.timeline.specs.Layers.{shifted, cut_off}
use Rattle.timeline.specs.Segments.{ended_by}
use Rattle.full_listing.specs.Lines.{timeline_lines}
use Rattle.full_listing.proofs.Lines.{same_lines, timelines_same}
use Rattle.full_listing.proofs.segments.put_planned.Goals as goal

pub returns : goal.returns
returns c =
    let plan = c.args.plan in
    let runs = c.args.runs.now in
    let t = c.lay_out-timeline.result in
    let xs = unless t.below.below.torn (of_bottom t.below.below.below) in
    let list = cut_off t.at (shifted t.below.by xs) in
    let address = λ (place : ℕ). address_at t.below.below.parts (of_bottom t.below.below.below) (ended_by xs t.below.by + place) in
    let same = timelines_same address (addresses_of plan runs) list (timeline_of plan runs) c.lay_out-timeline.ensures.list (λ i h. c.lay_out-timeline.ensures.address i h) in
    same_lines (timeline_lines (timeline_of plan runs) (addresses_of plan runs)) (timeline_lines list address) c.args.place (sym same) c.put_laid.ensures
