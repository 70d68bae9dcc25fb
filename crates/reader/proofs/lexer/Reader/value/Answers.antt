use Rattle.std.proofs.Common.{◌∙◌}
use Rattle.reader.proofs.Cursor.{handed}
use Rattle.reader.proofs.Tags.{value_missed, value_met}
use Rattle.reader.proofs.lexer.Reader.value.Goals as goal

pub returns-in_err-ends-clause-goes : goal.returns-in_err-ends-clause-goes
returns-in_err-ends-clause-goes c =
    let back = c.in_ok-quote.ensures in
    let ran = c.token-value.ensures.ran in
    λ E A d e a. handed _ _ _ _ c.from_residual-in_err-ends.ensures.1 (back.goes E A d e a ∙ value_missed E A d e a _ ran c.in_err-ends.ensures)

pub returns-clause-goes : goal.returns-clause-goes
returns-clause-goes c =
    let back = c.in_ok-quote.ensures in
    let token = c.token-value.ensures in
    let ends = c.in_ok-ends.ensures in
    λ E A d e a.
    let first = back.goes E A d e a in
    let met = value_met E A d e a c.in_ok-quote.quote token.ran ends c.advance.ensures.onward (c.advance.ensures.pos ends.before) in
    let at = token.at in
    let len = token.len in
    cc
