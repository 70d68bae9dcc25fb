use Rattle.std.proofs.Common.{[], ◌∷◌, ◌++◌, get_or, Err, refl, ap, ◌∙◌, rules}
use Rattle.std.proofs.lemmas.Result.{err_from_is_err_and}
use Rattle.bottom.proofs.Told.{told_some}
use Rattle.output.proofs.Several.{then_rest, refused_part, refused_guarded, accepted_guarded}
use Rattle.timeline.specs.Segments.{blank}
use Rattle.full_listing.specs.Lines.{segment_text}
use Rattle.full_listing.proofs.Lines.{line_put, line_none, address_put, address_refused}
use Rattle.full_listing.proofs.segments.put_segment.Goals as goal

pub returns-in_err-segment : goal.returns-in_err-segment
returns-in_err-segment g c =
    let t = c.args.timeline.now in
    let xs = g.T.Timeline.segments t in
    let i = c.args.place in
    let p = err_from_is_err_and c.from_residual.result c.from_residual.ensures.1 in
    line_none xs i c.in_err-segment.field-0.0 (segment_text (get_or xs i blank) (g.T.Addressed.address t i)) c.args.bytes.now c.args.mark.now.used c.from_residual.result
    c.in_err-segment.ensures (p.1 ∙ ap Err p.2)

pub returns-in_err-put_times : goal.returns-in_err-put_times
returns-in_err-put_times g c =
    let p = err_from_is_err_and c.from_residual-in_err-put_times.result c.from_residual-in_err-put_times.ensures.1 in
    let all = refused_part c.in_err-put_times.ensures (g.T.Addressed.address c.args.timeline.now c.args.place ++ (10 ∷ [])) in
    line_put (g.T.Timeline.segments c.args.timeline.now) c.args.place c.in_ok-segment.segment (g.T.Addressed.address c.args.timeline.now c.args.place) c.in_ok-segment.ensures (refused_guarded {r = Err c.in_err-put_times.field-0.0} all (search rules) (search rules) refl) (p.1 ∙ ap Err p.2)

pub returns-in_err-write_address : goal.returns-in_err-write_address
returns-in_err-write_address g c =
    let xs = g.T.Timeline.segments c.args.timeline.now in
    let i = c.args.place in
    let s = c.in_ok-segment.segment in
    let a = g.T.Addressed.address c.args.timeline.now i in
    let told = c.in_ok-segment.ensures in
    let at = told_some xs i s told in
    let p = err_from_is_err_and c.from_residual-in_err-write_address.result c.from_residual-in_err-write_address.ensures.1 in
    let no = address_refused c.in_err-write_address.ensures at.0 in
    let rest = refused_part no.1 (10 ∷ []) in
    let all = then_rest c.in_ok-put_times.ensures rest in
    line_put xs i s a told (refused_guarded {r = Err no.0} all (search rules) (search rules) refl) (p.1 ∙ ap Err (p.2 ∙ no.2))

pub returns-in_err-put : goal.returns-in_err-put
returns-in_err-put g c =
    let xs = g.T.Timeline.segments c.args.timeline.now in
    let i = c.args.place in
    let s = c.in_ok-segment.segment in
    let a = g.T.Addressed.address c.args.timeline.now i in
    let told = c.in_ok-segment.ensures in
    let at = told_some xs i s told in
    let p = err_from_is_err_and c.from_residual-in_err-put.result c.from_residual-in_err-put.ensures.1 in
    let rest = then_rest (address_put c.in_ok-write_address.ensures at.0) c.in_err-put.ensures in
    let all = then_rest c.in_ok-put_times.ensures rest in
    line_put xs i s a told (refused_guarded {r = Err c.in_err-put.field-0.0} all (search rules) (search rules) refl) (p.1 ∙ ap Err p.2)

pub returns : goal.returns
returns g c =
    let xs = g.T.Timeline.segments c.args.timeline.now in
    let i = c.args.place in
    let s = c.in_ok-segment.segment in
    let a = g.T.Addressed.address c.args.timeline.now i in
    let told = c.in_ok-segment.ensures in
    let at = told_some xs i s told in
    let rest = then_rest (address_put c.in_ok-write_address.ensures at.0) c.in_ok-put.ensures in
    let all = then_rest c.in_ok-put_times.ensures rest in
    line_put xs i s a told (accepted_guarded {v = tt} all (search rules) (search rules)) refl
