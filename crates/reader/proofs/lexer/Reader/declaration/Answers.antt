use Rattle.std.proofs.Common.{false, eqb, sym, refl, ◌∙◌}
use Rattle.std.proofs.lemmas.Bool.{cond-true, cond-false}
use Rattle.reader.specs.Bytes.{ascii}
use Rattle.reader.specs.Machine.{declaration, outside, nothing}
use Rattle.reader.proofs.Cursor.{onward_more, handed, ends_nothing, takes, lacks}
use Rattle.reader.proofs.lexer.Reader.declaration.Goals as goal

pub returns-in_err-b-clause-goes : goal.returns-in_err-b-clause-goes
returns-in_err-b-clause-goes c =
    let q = c.bytes.question in
    let back = c.in_ok-expect.ensures in
    λ E A.
    handed _ _ _ _ c.from_residual-in_err-b.ensures.1
    (back.goes E A (declaration false)
    ∙ c.bytes.invariant.goes E A
    ∙ lacks E A ascii c.bytes.self c.in_err-b.ensures.answer (declaration q) (λ b n. cond-false _ _ _ (ends_nothing ascii refl q b n) ∙ cond-false _ _ _ n) refl)

pub returns-then-ends_declaration-clause-goes : goal.returns-then-ends_declaration-clause-goes
returns-then-ends_declaration-clause-goes c =
    let back = c.in_ok-expect.ensures in
    let took = c.in_ok-b.ensures in
    λ E A.
    back.goes E A (declaration false)
    ∙ c.bytes.invariant.goes E A
    ∙ takes E A took.answer (declaration c.bytes.question) (outside nothing) (cond-true _ _ _ (sym c.if-ends_declaration.ensures))

pub bytes-preserved : goal.bytes-preserved
bytes-preserved c =
    let took = c.in_ok-b.ensures in
    record {
      onward = onward_more c.bytes.invariant.onward took.onward;
      goes = λ E A.
          c.bytes.invariant.goes E A
          ∙ takes E A took.answer (declaration c.bytes.question) (declaration (eqb c.in_ok-b.b 63)) (cond-false _ _ _ (sym c.if-ends_declaration.ensures) ∙ cond-true _ _ _ took.answer.passed);
    }
