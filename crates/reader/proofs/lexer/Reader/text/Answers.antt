use Rattle.reader.proofs.Cursor.{handed}
use Rattle.reader.proofs.Tags.{text_missed, text_met}
use Rattle.reader.proofs.lexer.Reader.text.Goals as goal

pub returns-in_err-ends-clause-goes : goal.returns-in_err-ends-clause-goes
returns-in_err-ends-clause-goes c = λ E A d e. handed _ _ _ _ c.from_residual.ensures.1 (text_missed E A d e c.token-text.ensures.ran c.in_err-ends.ensures)

pub returns-clause-goes : goal.returns-clause-goes
returns-clause-goes c = λ E A d e.
    let met = text_met E A d e c.token-text.ensures.ran c.in_ok-ends.ensures in
    let at = c.token-text.ensures.at in
    let len = c.token-text.ensures.len in
    cc
