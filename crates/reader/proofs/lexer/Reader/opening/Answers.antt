use Rattle.std.proofs.Common.{◌∙◌}
use Rattle.reader.specs.Machine.{quote}
use Rattle.reader.proofs.Cursor.{handed}
use Rattle.reader.proofs.Tags.{to_sign, to_value}
use Rattle.reader.proofs.lexer.Reader.opening.Goals as goal

pub returns-in_err-expect-clause-goes : goal.returns-in_err-expect-clause-goes
returns-in_err-expect-clause-goes c =
    let back = c.in_err-expect.ensures in
    λ E A d e a. handed _ _ _ _ c.from_residual.ensures.1 (to_sign E A d e a c.token.ensures.ran ∙ back.goes E A (quote d e a))

pub returns-clause-goes : goal.returns-clause-goes
returns-clause-goes c =
    let back = c.in_ok-expect.ensures in
    let blanks = c.token-2.ensures.ran in
    λ E A d e a. to_sign E A d e a c.token.ensures.ran ∙ back.goes E A (quote d e a) ∙ to_value E A d e a blanks c.take.new.self c.take.result c.take.ensures.answer
