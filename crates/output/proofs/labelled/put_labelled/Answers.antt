-- The word and the number, one behind the other, are the text.
use Rattle.std.proofs.Common.{rules}
use Rattle.output.specs.Digits.{padded}
use Rattle.output.proofs.Several.{then_rest, refused_part, refused_guarded, accepted_guarded}
use Rattle.output.proofs.labelled.put_labelled.Goals as goal

pub returns-in_err-put : goal.returns-in_err-put
returns-in_err-put c =
    let all = refused_part c.in_err-put.ensures (padded 1 c.args.n) in
    refused_guarded all (search rules) (search rules) (search rules)

pub returns-in_err-put_number : goal.returns-in_err-put_number
returns-in_err-put_number c =
    let all = then_rest c.in_ok-put.ensures c.in_err-put_number.ensures.put in
    refused_guarded all (search rules) (search rules) (search rules)

pub returns : goal.returns
returns c =
    let all = then_rest c.in_ok-put.ensures c.in_ok-put_number.ensures.put in
    accepted_guarded all (search rules) (search rules)
