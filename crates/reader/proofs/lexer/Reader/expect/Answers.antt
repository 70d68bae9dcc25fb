use Rattle.std.proofs.Common.{◌+◌, get_or, drop, eqb, refl, ap, ◌∙◌}
use Rattle.std.proofs.lemmas.Bool.{cond-true, cond-false}
use Rattle.reader.specs.Cursor.{comes}
use Rattle.reader.specs.Machine.{word, reads}
use Rattle.reader.proofs.Cursor.{onward_more, handed, takes, lacks}
use Rattle.reader.proofs.Lexing.{expecting, expected}
use Rattle.reader.proofs.lexer.Reader.expect.Goals as goal

pub returns-in_err-take-clause-goes : goal.returns-in_err-take-clause-goes
returns-in_err-take-clause-goes c =
    let r = c.loop-w.self in
    let ws = c.args.word.now in
    let i = c.loop-w.w-index in
    λ E A s.
    handed _ _ _ _ c.from_residual.ensures.1
    (c.loop-w.invariant.goes E A s
    ∙ ap (λ t. comes r E A t) (expecting ws i c.loop-w-test.true s)
    ∙ lacks E A (λ b. eqb b (get_or ws i 0)) r c.in_err-take.ensures.answer (word (get_or ws i 0) (drop (i + 1) ws) s) (λ b n. cond-false _ _ _ n) refl)

pub loop-w-preserved : goal.loop-w-preserved
loop-w-preserved c =
    let r = c.loop-w.self in
    let ws = c.args.word.now in
    let i = c.loop-w.w-index in
    let took = c.in_ok-take.ensures in
    record {
      onward = onward_more c.loop-w.invariant.onward took.onward;
      goes = λ E A s.
          c.loop-w.invariant.goes E A s
          ∙ ap (λ t. comes r E A t) (expecting ws i c.loop-w-test.true s)
          ∙ takes E A took.answer (word (get_or ws i 0) (drop (i + 1) ws) s) (reads (drop (i + 1) ws) s) (cond-true _ _ _ took.answer.passed);
    }

pub returns-clause-goes : goal.returns-clause-goes
returns-clause-goes c = λ E A s. c.loop-w.invariant.goes E A s ∙ ap (λ t. comes c.loop-w.self E A t) (expected c.args.word.now c.loop-w.w-index c.loop-w-test.false s)
