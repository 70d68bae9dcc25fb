use Rattle.std.proofs.Common.{◌≡◌, ◌-◌, false, length, sym, ap, ◌∙◌}
use Rattle.std.proofs.lemmas.Bool.{le-leb, lt-leb}
use Rattle.tables.specs.Rows.{held, capacity}
use Rattle.tables.specs.Zero.{span}
use Rattle.tables.specs.declared.span.Span.{Span}
use Rattle.reader.specs.Machine.{outside, naming, tag, opened, emptied}
use Rattle.reader.specs.Rows.{documented, after}
use Rattle.reader.specs.Tags.{leads}
use Rattle.reader.proofs.Cursor.{handed, blames, spans}
use Rattle.reader.proofs.Gaining.{gained_after, attributed_room, roomy}
use Rattle.reader.proofs.Names.{naming_deep, naming_full, naming_on}
use Rattle.reader.proofs.lexer.markup.read_element.Goals as goal
use Rattle.reader.proofs.lexer.markup.read_element.Goals.{After-rest_of_tag}

pub returns-then-rows-ge-LEVELS-clause-goes : goal.returns-then-rows-ge-LEVELS-clause-goes
returns-then-rows-ge-LEVELS-clause-goes c =
    let token = c.token-name.ensures in
    naming_deep _ _ _ token.ran (le-leb 16 c.args.rows.now.depth c.if-rows-ge-LEVELS.true)
    ∙ blames _ _ _ _ c.at.ensures (c.saturating_sub-byte.ensures ∙ ap (λ n. n - 1) token.at)

pub returns-then-is_full-clause-goes : goal.returns-then-is_full-clause-goes
returns-then-is_full-clause-goes c =
    let token = c.token-name.ensures in
    naming_full _ _ _ token.ran (lt-leb 16 c.args.rows.now.depth c.if-rows-ge-LEVELS.false) (sym c.if-is_full.ensures)
    ∙ blames _ _ _ _ c.at-then-is_full.ensures (c.saturating_sub-byte.ensures ∙ ap (λ n. n - 1) token.at)

-- the name ends, and the element has its level and its row
module _ (c : After-rest_of_tag) where
  abbrev name : Span
  name = span c.args.reader.now.pos (c.token-name.new.self.pos - c.args.reader.now.pos)

  named : after c.args.reader.now c.args.rows.now (naming (documented c.args.rows.now) c.args.reader.now.pos) ≡ after c.token-name.new.self c.args.rows.now (tag (documented c.args.rows.now) name false)
  named = naming_on _ _ _ c.token-name.ensures.ran (lt-leb 16 c.args.rows.now.depth c.if-rows-ge-LEVELS.false) (sym c.if-is_full.ensures)

pub returns-in_err-rest_of_tag-clause-goes : goal.returns-in_err-rest_of_tag-clause-goes
returns-in_err-rest_of_tag-clause-goes c =
    let before = (goal.at.returns-in_err-rest_of_tag-clause-goes c).After-rest_of_tag in
    handed _ _ _ _ c.from_residual.ensures.1 (named before ∙ c.in_err-rest_of_tag.ensures.goes (name before))

pub returns-in_err-text-in-Open-clause-goes : goal.returns-in_err-text-in-Open-clause-goes
returns-in_err-text-in-Open-clause-goes c =
    let before = (goal.at.returns-in_err-text-in-Open-clause-goes c).After-rest_of_tag in
    let e = name before in
    let u = c.rest_of_tag.new.rows in
    let p = c.rest_of_tag.new.reader in
    let opens = c.in_ok-rest_of_tag.ensures.goes e ∙ ap (λ end. after p u (leads end (documented u) e p.pos)) c.in-Open.is in
    handed _ _ _ _ c.from_residual-in_err-text-in-Open.ensures.1 (named before ∙ opens ∙ c.in_err-text-in-Open.ensures.goes (capacity u.elements.now) (capacity u.attributes.now) (documented u) e)

pub returns-in-Empty-clause-goes : goal.returns-in-Empty-clause-goes
returns-in-Empty-clause-goes c =
    let before = (goal.at.returns-in-Empty-clause-goes c).After-rest_of_tag in
    let e = name before in
    let token = c.token-name.ensures in
    let back = c.in_ok-rest_of_tag.ensures in
    let u = c.rest_of_tag.new.rows in
    let p = c.rest_of_tag.new.reader in
    let ends = back.goes e ∙ ap (λ end. after p u (leads end (documented u) e p.pos)) c.in-Empty.is in
    roomy (capacity u.elements.now) (length (held u.elements.now)) c.add_element.result _ _ c.add_element.ensures.answer (attributed_room back.attributed c.if-is_full.ensures) (λ row.
    named before
    ∙ ends
    ∙ ap (λ s. after p u (outside (emptied (documented u) s))) (sym (spans _ _ _ _ _ c.span.ensures token.at token.len))
    ∙ ap (λ x. after p u (outside x)) (sym row)
    ∙ gained_after c.add_element.ensures.gained p (outside (documented c.add_element.new.self)))

pub returns-in_ok-text-in-Open-clause-goes : goal.returns-in_ok-text-in-Open-clause-goes
returns-in_ok-text-in-Open-clause-goes c =
    let before = (goal.at.returns-in_ok-text-in-Open-clause-goes c).After-rest_of_tag in
    let e = name before in
    let token = c.token-name.ensures in
    let back = c.in_ok-rest_of_tag.ensures in
    let u = c.rest_of_tag.new.rows in
    let p = c.rest_of_tag.new.reader in
    let x = c.text.new.self in
    let opens = back.goes e ∙ ap (λ end. after p u (leads end (documented u) e p.pos)) c.in-Open.is in
    roomy (capacity u.elements.now) (length (held u.elements.now)) c.open.result _ _ c.open.ensures.answer (attributed_room back.attributed c.if-is_full.ensures) (λ row.
    named before
    ∙ opens
    ∙ c.in_ok-text-in-Open.ensures.goes (capacity u.elements.now) (capacity u.attributes.now) (documented u) e
    ∙ ap (λ s. after x u (outside (opened (documented u) e s))) (sym c.span-in-Open-2.ensures)
    ∙ ap (λ s. after x u (outside (opened (documented u) s c.span-in-Open-2.result))) (sym (spans _ _ _ _ _ c.span-in-Open.ensures token.at token.len))
    ∙ ap (λ y. after x u (outside y)) (sym row)
    ∙ gained_after c.open.ensures.gained x (outside (documented c.open.new.self)))
