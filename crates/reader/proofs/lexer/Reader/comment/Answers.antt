use Rattle.std.proofs.Common.{leb, sym, refl, ap, ◌∙◌}
use Rattle.std.proofs.lemmas.Bool.{cond-true, cond-false}
use Rattle.reader.specs.Bytes.{visible}
use Rattle.reader.specs.Machine.{comment, outside}
use Rattle.reader.proofs.Cursor.{onward_more, handed, ends_nothing, takes, lacks}
use Rattle.reader.proofs.lexer.Reader.comment.Goals as goal

pub returns-in_err-b-clause-goes : goal.returns-in_err-b-clause-goes
returns-in_err-b-clause-goes c =
    let k = c.bytes.dashes in
    let back = c.in_ok-expect.ensures in
    λ E A d.
    handed _ _ _ _ c.from_residual-in_err-b.ensures.1
    (back.goes E A (comment 0 d)
    ∙ c.bytes.invariant.goes E A d
    ∙ lacks E A visible c.bytes.self c.in_err-b.ensures.answer (comment k d) (λ b n. cond-false _ _ _ (ends_nothing visible refl (leb 2 k) b n) ∙ cond-false _ _ _ n) refl)

pub returns-then-ends_comment-clause-goes : goal.returns-then-ends_comment-clause-goes
returns-then-ends_comment-clause-goes c =
    let back = c.in_ok-expect.ensures in
    let took = c.in_ok-b.ensures in
    λ E A d.
    back.goes E A (comment 0 d)
    ∙ c.bytes.invariant.goes E A d
    ∙ takes E A took.answer (comment c.bytes.dashes d) (outside d) (cond-true _ _ _ (sym c.if-ends_comment.ensures))

pub bytes-preserved : goal.bytes-preserved
bytes-preserved c =
    let took = c.in_ok-b.ensures in
    record {
      onward = onward_more c.bytes.invariant.onward took.onward;
      goes = λ E A d.
          c.bytes.invariant.goes E A d
          ∙ takes E A took.answer (comment c.bytes.dashes d) (comment c.dashes_with-dashes.result d) (cond-false _ _ _ (sym c.if-ends_comment.ensures) ∙ cond-true _ _ _ took.answer.passed ∙ ap (λ k. comment k d) (sym c.dashes_with-dashes.ensures));
    }
