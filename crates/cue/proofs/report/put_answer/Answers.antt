-- The number that is put is that of the refusal.
use Rattle.std.proofs.Common.{ℕ, List, ◌++◌, codes, sym, ap, ◌∙◌, subst}
use Rattle.output.specs.Digits.{padded}
use Rattle.output.specs.Text.{Puts}
use Rattle.cue.specs.Reports.{answer_text}
use Rattle.cue.proofs.report.put_answer.Goals as goal

pub returns-in-Err : goal.returns-in-Err
returns-in-Err c =
    let text = ap (λ (n : ℕ). codes " -> refused " ++ padded 1 n) c.number.ensures ∙ ap answer_text (sym c.in-Err.is) in
    subst (λ (t : List ℕ). Puts c.args.bytes.now c.args.mark.now.used t c.put_labelled.new.bytes c.put_labelled.new.mark.used c.put_labelled.result) text c.put_labelled.ensures
