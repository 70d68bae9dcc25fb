use Rattle.std.proofs.Common.{sym, refl, ap, ◌∙◌}
use Rattle.std.proofs.lemmas.Bool.{cond-false}
use Rattle.reader.specs.Bytes.{begins}
use Rattle.reader.specs.Machine.{outside, shut}
use Rattle.reader.specs.Rows.{documented, after}
use Rattle.reader.proofs.Cursor.{handed, blames, lacks}
use Rattle.reader.proofs.Gaining.{gained_after}
use Rattle.reader.proofs.Names.{names_told, closing_other, closing_on}
use Rattle.reader.proofs.Outside.{close_name, to_closed}
use Rattle.reader.proofs.lexer.markup.close_element.Goals as goal

pub returns-in_err-need-clause-goes : goal.returns-in_err-need-clause-goes
returns-in_err-need-clause-goes c =
    handed _ _ _ _ c.from_residual.ensures.1 (lacks _ _ begins c.args.reader.now c.in_err-need.ensures _ (λ b n. cond-false _ _ _ n) refl)

pub returns-then-not-same-clause-goes : goal.returns-then-not-same-clause-goes
returns-then-not-same-clause-goes c =
    let token = c.token-name.ensures in
    close_name _ _ _ c.in_ok-need.ensures
    ∙ closing_other _ _ _ token.ran (names_told _ _ _ _ _ _ _ c.innermost-open.ensures c.part.ensures token.text c.if-not-same.ensures)
    ∙ blames _ _ _ _ c.at.ensures token.at

pub returns-in_err-expect-clause-goes : goal.returns-in_err-expect-clause-goes
returns-in_err-expect-clause-goes c =
    let token = c.token-name.ensures in
    handed _ _ _ _ c.from_residual-in_err-expect.ensures.1
    (close_name _ _ _ c.in_ok-need.ensures
    ∙ closing_on _ _ _ token.ran (names_told _ _ _ _ _ _ _ c.innermost-open.ensures c.part.ensures token.text c.if-not-same.ensures)
    ∙ to_closed _ _ _ c.token.ensures.ran
    ∙ c.in_err-expect.ensures.goes _ _ (outside (shut (documented c.args.rows.now))))

pub returns-clause-goes : goal.returns-clause-goes
returns-clause-goes c =
    let token = c.token-name.ensures in
    let r = c.expect.new.self in
    close_name _ _ _ c.in_ok-need.ensures
    ∙ closing_on _ _ _ token.ran (names_told _ _ _ _ _ _ _ c.innermost-open.ensures c.part.ensures token.text c.if-not-same.ensures)
    ∙ to_closed _ _ _ c.token.ensures.ran
    ∙ c.in_ok-expect.ensures.goes _ _ (outside (shut (documented c.args.rows.now)))
    ∙ ap (λ d. after r c.args.rows.now (outside d)) (sym c.close.ensures.shut)
    ∙ gained_after c.close.ensures.gained r (outside (documented c.close.new.self))
