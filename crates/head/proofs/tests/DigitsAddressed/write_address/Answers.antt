use Rattle.std.proofs.Common.{Ok, Err, refl, ap, ◌∙◌, arith}
use Rattle.std.proofs.lemmas.Result.{err_from_is_err_and}
use Rattle.head.proofs.tests.DigitsAddressed.write_address.Goals as goal

pub returns-in_err-put : goal.returns-in_err-put
returns-in_err-put g c =
    let p = err_from_is_err_and c.from_residual.result c.from_residual.ensures.1 in
    record { there = λ h. (Err c.in_err-put.field-0.0, c.in_err-put.ensures, p.1 ∙ ap Err p.2); past = λ h. absurd (omega arith) }

pub returns : goal.returns
returns g c = record { there = λ h. (Ok tt, c.in_ok-put.ensures, refl); past = λ h. absurd (omega arith) }
