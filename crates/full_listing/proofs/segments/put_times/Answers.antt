use Rattle.std.proofs.Common.{◌++◌, codes, rules}
use Rattle.output.specs.Digits.{padded}
use Rattle.output.proofs.Several.{then_rest, refused_part, refused_guarded, accepted_guarded}
use Rattle.full_listing.proofs.segments.put_times.Goals as goal

pub returns-in_err-put_field : goal.returns-in_err-put_field
returns-in_err-put_field c =
    let s = c.args.segment in
    let all = refused_part c.in_err-put_field.ensures ((padded 1 s.start ++ codes " ") ++ (padded 1 s.length ++ codes " ")) in
    refused_guarded all (search rules) (search rules) (search rules)

pub returns-in_err-put_field-2 : goal.returns-in_err-put_field-2
returns-in_err-put_field-2 c =
    let rest = refused_part c.in_err-put_field-2.ensures (padded 1 c.args.segment.length ++ codes " ") in
    refused_guarded (then_rest c.in_ok-put_field.ensures rest) (search rules) (search rules) (search rules)

pub returns-in_err-put_field-3 : goal.returns-in_err-put_field-3
returns-in_err-put_field-3 c =
    let rest = then_rest c.in_ok-put_field-2.ensures c.in_err-put_field-3.ensures in
    refused_guarded (then_rest c.in_ok-put_field.ensures rest) (search rules) (search rules) (search rules)

pub returns : goal.returns
returns c =
    let rest = then_rest c.in_ok-put_field-2.ensures c.in_ok-put_field-3.ensures in
    accepted_guarded (then_rest c.in_ok-put_field.ensures rest) (search rules) (search rules)
