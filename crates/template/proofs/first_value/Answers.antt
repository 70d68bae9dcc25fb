use Rattle.std.proofs.Common.{◌+◌, true, false, length, drop, Some, None, sym, ap, ◌∙◌}
use Rattle.template.specs.declared.Piece.TheVariants.{Value}
use Rattle.template.specs.Pieces.{text_of}
use Rattle.template.specs.Reading.{measured, closing_text, closing_of}
use Rattle.template.proofs.Measured.{measured_some, measured_none}
use Rattle.template.proofs.Steps.{closing_there, value_there, value_length}
use Rattle.template.proofs.first_value.Goals as goal

pub returns-in_err-tag : goal.returns-in_err-tag
returns-in_err-tag c =
    let s = c.args.text.now in
    let name = c.name_of-name.result.now in
    let none = measured_none closing_text (closing_of (drop (1 + length name) s)) c.in_err-tag.ensures in
    let e = closing_there s c.args.identifier name c.name_of-name.ensures (sym c.if-not-begins_at.ensures) None none in
    c.from_residual.ensures ∙ sym (ap (measured text_of) e)

pub returns-then-not-takes_tag : goal.returns-then-not-takes_tag
returns-then-not-takes_tag c =
    let s = c.args.text.now in
    let name = c.name_of-name.result.now in
    let tag = c.in_ok-tag.tag in
    let some = measured_some closing_text (closing_of (drop (1 + length name) s)) tag c.in_ok-tag.long c.in_ok-tag.ensures in
    let e = value_there s c.args.identifier name c.name_of-name.ensures (sym c.if-not-begins_at.ensures)
    tag some.0 false (sym c.if-not-takes_tag.ensures) in
    sym (ap (measured text_of) e)

pub returns : goal.returns
returns c =
    let s = c.args.text.now in
    let i = c.args.identifier in
    let name = c.name_of-name.result.now in
    let tag = c.in_ok-tag.tag in
    let n = c.in_ok-tag.long in
    let some = measured_some closing_text (closing_of (drop (1 + length name) s)) tag n c.in_ok-tag.ensures in
    let named = sym c.if-not-begins_at.ensures in
    let e = value_there s i name c.name_of-name.ensures named tag some.0 true (sym c.if-not-takes_tag.ensures) in
    ap (λ k. Some (Value i tag, k)) (value_length s i name c.name_of-name.ensures named tag n some.1)
    ∙ sym (ap (measured text_of) e)
