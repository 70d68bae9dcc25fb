use Rattle.std.proofs.Common.{◌∙◌, refl, arith}
use Rattle.reader.proofs.Cursor.{handed, blames, outs}
use Rattle.reader.proofs.Tags.{tight, wide, to_gap, tag_open, tag_slash, tag_tight, tag_other, tag_attribute}
use Rattle.reader.proofs.lexer.markup.tag_part.Goals as goal

pub returns-in_err-byte-clause-goes : goal.returns-in_err-byte-clause-goes
returns-in_err-byte-clause-goes c = λ e.
    handed _ _ _ _ c.from_residual.ensures.1 (to_gap _ _ _ e c.token-gap.ensures.ran ∙ outs _ _ c.token-gap.new.self c.in_err-byte.ensures _ refl)

pub returns-in-62-clause-goes : goal.returns-in-62-clause-goes
returns-in-62-clause-goes c = λ e.
    let ran = c.token-gap.ensures.ran in
    let st = c.in_ok-byte.ensures in
    to_gap _ _ _ e ran ∙ tag_open _ _ _ e _ st ran.stops c.in-62.is c.advance.ensures.onward (c.advance.ensures.pos st.before)

pub returns-in_err-expect-in-47-clause-goes : goal.returns-in_err-expect-in-47-clause-goes
returns-in_err-expect-in-47-clause-goes c = λ e.
    let ran = c.token-gap.ensures.ran in
    let st = c.in_ok-byte.ensures in
    let moved = c.advance-in-47.ensures in
    handed _ _ _ _ c.from_residual-in_err-expect-in-47.ensures.1
    (to_gap _ _ _ e ran
    ∙ tag_slash _ _ _ e _ st ran.stops (λ y. omega (arith, y, c.in-47.is)) c.in-47.is moved.onward (moved.pos st.before)
    ∙ c.in_err-expect-in-47.ensures.goes _ _ _)

pub returns-in_ok-expect-in-47-clause-goes : goal.returns-in_ok-expect-in-47-clause-goes
returns-in_ok-expect-in-47-clause-goes c = λ e.
    let ran = c.token-gap.ensures.ran in
    let st = c.in_ok-byte.ensures in
    let moved = c.advance-in-47.ensures in
    to_gap _ _ _ e ran
    ∙ tag_slash _ _ _ e _ st ran.stops (λ y. omega (arith, y, c.in-47.is)) c.in-47.is moved.onward (moved.pos st.before)
    ∙ c.in_ok-expect-in-47.ensures.goes _ _ _

pub returns-in_default-clause-goes : goal.returns-in_default-clause-goes
returns-in_default-clause-goes c = λ e.
    let token = c.token-gap.ensures in
    to_gap _ _ _ e token.ran
    ∙ tag_tight _ _ _ e _ c.in_ok-byte.ensures token.ran.stops (λ y. omega (arith, y)) (λ y. omega (arith, y)) (tight _ _ token.len c.if-is_empty.ensures)
    ∙ blames _ _ _ _ c.refuse.ensures refl

pub returns-in_err-need-in_default-2-clause-goes : goal.returns-in_err-need-in_default-2-clause-goes
returns-in_err-need-in_default-2-clause-goes c = λ e.
    let ran = c.token-gap.ensures.ran in
    handed _ _ _ _ c.from_residual-in_err-need-in_default-2.ensures.1
    (to_gap _ _ _ e ran ∙ tag_other _ _ _ e _ c.in_ok-byte.ensures ran.stops (λ y. omega (arith, y)) (λ y. omega (arith, y)) c.in_err-need-in_default-2.ensures)

pub returns-in_err-read_attribute-in_default-2-clause-goes : goal.returns-in_err-read_attribute-in_default-2-clause-goes
returns-in_err-read_attribute-in_default-2-clause-goes c = λ e.
    let token = c.token-gap.ensures in
    handed _ _ _ _ c.from_residual-in_err-read_attribute-in_default-2.ensures.1
    (to_gap _ _ _ e token.ran
    ∙ tag_attribute _ _ _ e _ c.in_ok-byte.ensures token.ran.stops (λ y. omega (arith, y)) (λ y. omega (arith, y)) (wide _ _ token.len c.if-is_empty.ensures) c.in_ok-need-in_default-2.ensures
    ∙ c.in_err-read_attribute-in_default-2.ensures.goes e)

pub returns-in_ok-read_attribute-in_default-2-clause-goes : goal.returns-in_ok-read_attribute-in_default-2-clause-goes
returns-in_ok-read_attribute-in_default-2-clause-goes c = λ e.
    let token = c.token-gap.ensures in
    to_gap _ _ _ e token.ran
    ∙ tag_attribute _ _ _ e _ c.in_ok-byte.ensures token.ran.stops (λ y. omega (arith, y)) (λ y. omega (arith, y)) (wide _ _ token.len c.if-is_empty.ensures) c.in_ok-need-in_default-2.ensures
    ∙ c.in_ok-read_attribute-in_default-2.ensures.goes e
