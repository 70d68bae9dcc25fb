use Rattle.std.proofs.Common.{codes, rules}
use Rattle.output.proofs.Several.{then_rest, refused_part, refused_guarded, accepted_guarded}
use Rattle.full_listing.proofs.segments.put_field.Goals as goal

pub returns-in_err-put_number : goal.returns-in_err-put_number
returns-in_err-put_number c =
    let all = refused_part c.in_err-put_number.ensures.put (codes " ") in
    refused_guarded all (search rules) (search rules) (search rules)

pub returns-in_err-put : goal.returns-in_err-put
returns-in_err-put c =
    let all = then_rest c.in_ok-put_number.ensures.put c.in_err-put.ensures in
    refused_guarded all (search rules) (search rules) (search rules)

pub returns : goal.returns
returns c =
    let all = then_rest c.in_ok-put_number.ensures.put c.in_ok-put.ensures in
    accepted_guarded all (search rules) (search rules)
