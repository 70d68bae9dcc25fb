use Rattle.std.proofs.Common.{[], ◌∷◌, rules}
use Rattle.output.specs.Digits.{padded}
use Rattle.output.proofs.Several.{then_rest, regrouped, refused_part, refused_guarded, accepted_guarded}
use Rattle.listing.proofs.line.put_counted.Goals as goal

pub returns-in_err-put_labelled : goal.returns-in_err-put_labelled
returns-in_err-put_labelled c =
    let all = regrouped c.args.word.now (padded 1 c.args.n) (10 ∷ []) (refused_part c.in_err-put_labelled.ensures (10 ∷ [])) in
    refused_guarded all (search rules) (search rules) (search rules)

pub returns-in_err-put : goal.returns-in_err-put
returns-in_err-put c =
    let all = regrouped c.args.word.now (padded 1 c.args.n) (10 ∷ []) (then_rest c.in_ok-put_labelled.ensures c.in_err-put.ensures) in
    refused_guarded all (search rules) (search rules) (search rules)

pub returns : goal.returns
returns c =
    let all = regrouped c.args.word.now (padded 1 c.args.n) (10 ∷ []) (then_rest c.in_ok-put_labelled.ensures c.in_ok-put.ensures) in
    accepted_guarded all (search rules) (search rules)
