use Rattle.std.proofs.Common.{◌≡◌, suc, [], length, get_or, slice_get, Some, arith}
use Rattle.std.proofs.lemmas.Int.{ints}
use Rattle.timeline.proofs.Writes.{refused}
use Rattle.listing.specs.Lines.{text}
use Rattle.listing.specs.declared.line.Line.TheVariants.{Findings, Segments}
use Rattle.full_listing.specs.Lines.{timeline_lines}
use Rattle.full_listing.proofs.Lines.{put_there, full_there, length-lines, segment_at}
use Rattle.full_listing.proofs.segments.put_laid.Goals as goal

pub returns-in_err-put_line-in-0 : goal.returns-in_err-put_line-in-0
returns-in_err-put_line-in-0 g c =
    let ls = timeline_lines (g.T.Timeline.segments c.args.timeline.now) (g.T.Addressed.address c.args.timeline.now) in
    let at : slice_get ls c.args.place ≡ Some (text (Findings 0)) = rw c.in-0.is in
    full_there ls c.args.place at c.in_err-put_line-in-0.ensures c.from_residual.ensures.1

pub returns-in-0 : goal.returns-in-0
returns-in-0 g c =
    let ls = timeline_lines (g.T.Timeline.segments c.args.timeline.now) (g.T.Addressed.address c.args.timeline.now) in
    let at : slice_get ls c.args.place ≡ Some (text (Findings 0)) = rw c.in-0.is in
    put_there ls c.args.place at c.in_ok-put_line-in-0.ensures

pub returns-in_err-put_line-in-1 : goal.returns-in_err-put_line-in-1
returns-in_err-put_line-in-1 g c =
    let ls = timeline_lines (g.T.Timeline.segments c.args.timeline.now) (g.T.Addressed.address c.args.timeline.now) in
    let at : slice_get ls c.args.place ≡ Some (text (Segments c.count.result)) = rw (c.in-1.is, c.count.ensures) in
    full_there ls c.args.place at c.in_err-put_line-in-1.ensures c.from_residual-in_err-put_line-in-1.ensures.1

pub returns-in-1 : goal.returns-in-1
returns-in-1 g c =
    let ls = timeline_lines (g.T.Timeline.segments c.args.timeline.now) (g.T.Addressed.address c.args.timeline.now) in
    let at : slice_get ls c.args.place ≡ Some (text (Segments c.count.result)) = rw (c.in-1.is, c.count.ensures) in
    put_there ls c.args.place at c.in_ok-put_line-in-1.ensures

pub returns-in-Ok : goal.returns-in-Ok
returns-in-Ok g c =
    let t = c.args.timeline.now in
    let e : c.args.place ≡ suc (suc c.in-Ok.before) = omega (arith, ints, c.in-Ok.ensures) in
    segment_at (g.T.Timeline.segments t) (g.T.Addressed.address t) c.args.place c.in-Ok.before e c.put_segment.ensures

pub returns-in-Err : goal.returns-in-Err
returns-in-Err g c =
    let t = c.args.timeline.now in
    let xs = g.T.Timeline.segments t in
    let a = g.T.Addressed.address t in
    let long = length-lines a 0 xs in
    refused (length (timeline_lines xs a)) c.args.place (get_or (timeline_lines xs a) c.args.place []) c.args.bytes.now c.args.mark.now.used (omega (arith, ints, c.in-Err.ensures, (g.T.Timeline.sound t).few))
