use Rattle.std.proofs.Common.{sym, refl, ap, ◌∙◌}
use Rattle.reader.specs.Machine.{refused}
use Rattle.reader.proofs.Cursor.{blames}
use Rattle.reader.proofs.Outside.{outside_done, outside_ends, outside_angle, outside_other}
use Rattle.reader.proofs.lexer.markup.next_markup.Goals as goal

pub returns-in-None-clause-goes : goal.returns-in-None-clause-goes
returns-in-None-clause-goes c =
    outside_done _ _ _ _ c.token.ensures.ran c.is_inside-inside.ensures c.in-None.ensures (sym c.if-is_finished.ensures)

pub returns-in-None-2-clause-goes : goal.returns-in-None-2-clause-goes
returns-in-None-2-clause-goes c =
    outside_ends _ _ _ _ c.token.ensures.ran c.is_inside-inside.ensures c.in-None.ensures (sym c.if-is_finished.ensures)
    ∙ blames _ _ _ _ c.refuse-in-None-2.ensures refl

pub returns-in-Some-eq60-clause-goes : goal.returns-in-Some-eq60-clause-goes
returns-in-Some-eq60-clause-goes c =
    let st = c.in-Some-eq60.ensures in
    outside_angle _ _ _ _ c.token.ensures.ran c.is_inside-inside.ensures st c.in-Some-eq60.field-0-test c.advance.ensures.onward (c.advance.ensures.pos st.before)

pub returns-in-Some-clause-goes : goal.returns-in-Some-clause-goes
returns-in-Some-clause-goes c =
    let q = c.token.new.self in
    outside_other _ _ _ _ c.token.ensures.ran c.is_inside-inside.ensures c.in-Some.ensures c.in-Some.b-test.1
    ∙ ap (λ k. refused k q.pos) (sym c.stray.ensures)
    ∙ blames _ _ _ _ c.refuse.ensures refl
