use Rattle.std.proofs.Common.{sym, refl, ◌∙◌, arith}
use Rattle.reader.proofs.Cursor.{handed, blames, outs}
use Rattle.reader.proofs.Outside.{angle_comment, angle_close, angle_stray, angle_stop, angle_other, angle_name}
use Rattle.reader.proofs.lexer.markup.markup.Goals as goal

pub returns-in_err-byte-clause-goes : goal.returns-in_err-byte-clause-goes
returns-in_err-byte-clause-goes c =
    handed _ _ _ _ c.from_residual.ensures.1 (outs _ _ c.args.reader.now c.in_err-byte.ensures _ refl)

pub returns-in-33-clause-goes : goal.returns-in-33-clause-goes
returns-in-33-clause-goes c =
    let st = c.in_ok-byte.ensures in
    let moved = c.advance.ensures in
    angle_comment _ _ _ st c.in-33.is moved.onward (moved.pos st.before) ∙ c.comment.ensures.goes _ _ _

pub returns-then-not-is_inside-clause-goes : goal.returns-then-not-is_inside-clause-goes
returns-then-not-is_inside-clause-goes c =
    angle_stray _ _ _ c.in_ok-byte.ensures (λ y. omega (arith, y, c.in-47.is)) c.in-47.is (sym c.if-not-is_inside.ensures) ∙ blames _ _ _ _ c.refuse.ensures refl

pub returns-else-not-is_inside-clause-goes : goal.returns-else-not-is_inside-clause-goes
returns-else-not-is_inside-clause-goes c =
    let st = c.in_ok-byte.ensures in
    let moved = c.advance-in-47.ensures in
    angle_close _ _ _ st (λ y. omega (arith, y, c.in-47.is)) c.in-47.is (sym c.if-not-is_inside.ensures) moved.onward (moved.pos st.before) ∙ c.close_element.ensures.goes

pub returns-in_err-need-in_default-clause-goes : goal.returns-in_err-need-in_default-clause-goes
returns-in_err-need-in_default-clause-goes c =
    handed _ _ _ _ c.from_residual-in_err-need-in_default.ensures.1 (angle_other _ _ _ c.in_ok-byte.ensures (λ y. omega (arith, y)) (λ y. omega (arith, y)) c.in_err-need-in_default.ensures)

pub returns-then-not-may_begin-clause-goes : goal.returns-then-not-may_begin-clause-goes
returns-then-not-may_begin-clause-goes c =
    angle_stop _ _ _ c.in_ok-byte.ensures (λ y. omega (arith, y)) (λ y. omega (arith, y)) (sym c.if-not-may_begin.ensures) ∙ blames _ _ _ _ c.refuse-then-not-may_begin.ensures refl

pub returns-else-not-may_begin-clause-goes : goal.returns-else-not-may_begin-clause-goes
returns-else-not-may_begin-clause-goes c =
    angle_name _ _ _ c.in_ok-byte.ensures (λ y. omega (arith, y)) (λ y. omega (arith, y)) c.in_ok-need-in_default.ensures (sym c.if-not-may_begin.ensures) ∙ c.read_element.ensures.goes
