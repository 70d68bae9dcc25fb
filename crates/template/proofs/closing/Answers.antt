use Rattle.std.proofs.Common.{sym, ap}
use Rattle.template.specs.Pieces.{width_text}
use Rattle.template.specs.Reading.{measured, width_of, closing_text}
use Rattle.template.proofs.Measured.{measured_some}
use Rattle.template.proofs.Steps.{no_end, tag_there}
use Rattle.template.proofs.closing.Goals as goal

pub returns-then-not-begins_at-2 : goal.returns-then-not-begins_at-2
returns-then-not-begins_at-2 c =
    let a = c.byte_at.result in
    let b = c.byte_at-2.result in
    let w = c.in_ok-width.width in
    let n = c.in_ok-width.digits in
    let width = measured_some width_text (width_of a b) w n c.in_ok-width.ensures in
    let e = no_end c.args.text.now c.args.at (sym c.if-begins_at.ensures) (sym c.if-not-begins_at.ensures)
    a b c.byte_at.ensures c.byte_at-2.ensures w n width (sym c.if-not-begins_at-2.ensures) in
    sym (ap (measured closing_text) e)

pub returns : goal.returns
returns c =
    let a = c.byte_at.result in
    let b = c.byte_at-2.result in
    let w = c.in_ok-width.width in
    let n = c.in_ok-width.digits in
    let width = measured_some width_text (width_of a b) w n c.in_ok-width.ensures in
    tag_there c.args.text.now c.args.at (sym c.if-begins_at.ensures) (sym c.if-not-begins_at.ensures)
    a b c.byte_at.ensures c.byte_at-2.ensures w n width (sym c.if-not-begins_at-2.ensures)
