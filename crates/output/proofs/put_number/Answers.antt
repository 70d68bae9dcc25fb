-- What is put is the number in decimal, and no other text is.
use Rattle.std.proofs.Common.{◌≡◌, max, ap, ◌∙◌, arith}
use Rattle.std.proofs.lemmas.List.{length-take-le}
use Rattle.output.specs.Digits.{last_digits, digit_count, width_of, padded}
use Rattle.output.proofs.Law.{padded_decimal, decimal_padded}
use Rattle.output.proofs.put_number.Goals as goal

pub returns-clause-put : goal.returns-clause-put
returns-clause-put c =
    let long : c.max-long.result ≡ max (digit_count c.args.n) (width_of c.args.width) = omega arith in
    let text : c.fill_digits.new.to ≡ padded c.args.width c.args.n = c.fill_digits.ensures ∙ ap (λ k. last_digits k c.args.n) (length-take-le c.max-long.result _ (omega arith) ∙ long) in
    rw (← text) c.put.ensures

pub returns-clause-decimal : goal.returns-clause-decimal
returns-clause-decimal c = padded_decimal c.args.width c.args.n (omega arith)

pub returns-clause-only : goal.returns-clause-only
returns-clause-only c = λ digits. decimal_padded c.args.width c.args.n digits (omega arith)
