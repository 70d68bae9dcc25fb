use Rattle.std.proofs.Common.{sym, ◌∙◌, subst, arith}
use Rattle.std.proofs.lemmas.Result.{err_from_is_err_and}
use Rattle.template.proofs.Places.{Answer, at_end, fits, at_piece, at_break}
use Rattle.template.proofs.piece_at.Goals as goal

pub returns-then-at-template : goal.returns-then-at-template
returns-then-at-template c = at_end c.args.template.now c.args.at c.if-at-template.true

pub returns-in_err-piece : goal.returns-in_err-piece
returns-in_err-piece c =
    let p = err_from_is_err_and c.from_residual.result c.from_residual.ensures.1 in
    let none = sym c.in_err-piece.ensures.ok_part ∙ c.first_piece.ensures in
    subst (Answer c.args.template.now c.args.at) (sym p.1)
    (at_break c.args.template.now c.args.at c.if-at-template.false none)

pub overflow_add-result : goal.overflow_add-result
overflow_add-result c =
    let found = sym c.in_ok-piece.ensures.ok_part ∙ c.first_piece.ensures in
    omega (arith, fits c.args.template.now c.args.at c.if-at-template.false c.in_ok-piece.piece c.in_ok-piece.long found)

pub returns : goal.returns
returns c =
    let found = sym c.in_ok-piece.ensures.ok_part ∙ c.first_piece.ensures in
    at_piece c.args.template.now c.args.at c.if-at-template.false c.in_ok-piece.piece c.in_ok-piece.long found
