use Rattle.std.proofs.Common.{◌≡◌, ◌-◌, false, length, sym, ap, ◌∙◌}
use Rattle.std.specs.Prelude.{slice_range}
use Rattle.tables.specs.Rows.{held, capacity}
use Rattle.tables.specs.Zero.{span}
use Rattle.tables.specs.declared.span.Span.{Span}
use Rattle.reader.specs.Machine.{attribute, sign, tag, valued}
use Rattle.reader.specs.Rows.{documented, after}
use Rattle.reader.proofs.Cursor.{handed, blames, spans}
use Rattle.reader.proofs.Gaining.{attributed_after, roomy}
use Rattle.reader.proofs.Names.{twice_told, attribute_full, attribute_twice, attribute_on}
use Rattle.reader.proofs.lexer.markup.read_attribute.Goals as goal
use Rattle.reader.proofs.lexer.markup.read_attribute.Goals.{After-value}

pub returns-then-is_full-clause-goes : goal.returns-then-is_full-clause-goes
returns-then-is_full-clause-goes c = λ e.
    attribute_full _ _ _ c.token-name.ensures.ran e (sym c.if-is_full.ensures)
    ∙ blames _ _ _ _ c.at.ensures c.token-name.ensures.at

pub returns-then-is_twice-clause-goes : goal.returns-then-is_twice-clause-goes
returns-then-is_twice-clause-goes c = λ e.
    let t = c.args.rows.now in
    let token = c.token-name.ensures in
    let r = c.args.reader.now in
    let q = c.token-name.new.self in
    attribute_twice _ _ _ token.ran e (sym c.if-is_full.ensures) (twice_told q.src.now (length (held t.elements.now)) c.token-name.result.text.now (slice_range q.src.now r.pos q.pos) (held t.attributes.now) _ token.text c.if-is_twice.ensures)
    ∙ blames _ _ _ _ c.at-then-is_twice.ensures token.at

-- the name ends, and the attribute has its row and no other one has its name
module _ (c : After-value) where
  abbrev name : Span
  name = span c.args.reader.now.pos (c.token-name.new.self.pos - c.args.reader.now.pos)

  named : (e : Span) → after c.args.reader.now c.args.rows.now (attribute (documented c.args.rows.now) e c.args.reader.now.pos) ≡ after c.token-name.new.self c.args.rows.now (sign (documented c.args.rows.now) e name)
  named e =
      let t = c.args.rows.now in
      let token = c.token-name.ensures in
      let r = c.args.reader.now in
      let q = c.token-name.new.self in
      attribute_on _ _ _ token.ran e (sym c.if-is_full.ensures) (twice_told q.src.now (length (held t.elements.now)) c.token-name.result.text.now (slice_range q.src.now r.pos q.pos) (held t.attributes.now) _ token.text c.if-is_twice.ensures)

pub returns-in_err-value-clause-goes : goal.returns-in_err-value-clause-goes
returns-in_err-value-clause-goes c = λ e.
    let before = (goal.at.returns-in_err-value-clause-goes c).After-value in
    let t = c.args.rows.now in
    handed _ _ _ _ c.from_residual.ensures.1 (named before e ∙ c.in_err-value.ensures.goes (capacity t.elements.now) (capacity t.attributes.now) (documented t) e (name before))

pub returns-clause-goes : goal.returns-clause-goes
returns-clause-goes c = λ e.
    let before = (goal.at.returns-clause-goes c).After-value in
    let t = c.args.rows.now in
    let token = c.token-name.ensures in
    let v = c.value.new.self in
    let a = name before in
    roomy (capacity t.attributes.now) (length (held t.attributes.now)) c.add_attribute.result _ _ c.add_attribute.ensures.answer (sym c.if-is_full.ensures) (λ row.
    named before e
    ∙ c.in_ok-value.ensures.goes (capacity t.elements.now) (capacity t.attributes.now) (documented t) e a
    ∙ ap (λ s. after v t (tag (valued (documented t) a s) e false)) (sym c.span-2.ensures)
    ∙ ap (λ s. after v t (tag (valued (documented t) s c.span-2.result) e false)) (sym (spans _ _ _ _ _ c.span.ensures token.at token.len))
    ∙ ap (λ d. after v t (tag d e false)) (sym row)
    ∙ attributed_after c.add_attribute.ensures.attributed v (tag (documented c.add_attribute.new.self) e false))
