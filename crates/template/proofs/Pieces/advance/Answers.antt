use Rattle.std.proofs.Common.{rules, Some, sym, ap, ◌∙◌}
use Rattle.template.proofs.Walks.{pieces_first, broken_first, first_found, none_found}
use Rattle.template.proofs.Pieces.advance.Goals as goal

pub returns-in_err-ok-clause-steps : goal.returns-in_err-ok-clause-steps
returns-in_err-ok-clause-steps c =
    let none = none_found c.args.self.now.rest.now c.piece_at.result c.piece_at.ensures.value c.in_err-ok.ensures.value in
    search (rules, none)

pub returns-clause-steps : goal.returns-clause-steps
returns-clause-steps c =
    let there = sym (ap (λ o. Some o) c.in_ok-piece.was) ∙ c.in_ok-ok.ensures.value in
    pieces_first c.args.self.now.rest.now c.in_ok-piece.piece c.in_ok-piece.long
    (first_found c.args.self.now.rest.now c.piece_at.result c.piece_at.ensures.value c.in_ok-piece.piece c.in_ok-piece.long there)

pub returns-clause-broken : goal.returns-clause-broken
returns-clause-broken c =
    let there = sym (ap (λ o. Some o) c.in_ok-piece.was) ∙ c.in_ok-ok.ensures.value in
    broken_first c.args.self.now.rest.now c.in_ok-piece.piece c.in_ok-piece.long
    (first_found c.args.self.now.rest.now c.piece_at.result c.piece_at.ensures.value c.in_ok-piece.piece c.in_ok-piece.long there)
