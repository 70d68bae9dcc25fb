use Rattle.std.proofs.Common.{ℕ, List, [], ◌∷◌, ◌++◌, codes, rules}
use Rattle.output.specs.Digits.{padded}
use Rattle.output.proofs.Several.{then_rest, regrouped, refused_part, refused_guarded, accepted_guarded}
use Rattle.listing.proofs.line.put_finding.Goals as goal

-- the text behind the number of the rule
abbrev behind : ℕ → List ℕ
behind byte = codes " " ++ (padded 1 byte ++ (10 ∷ []))

pub returns-in_err-put_labelled : goal.returns-in_err-put_labelled
returns-in_err-put_labelled c =
    let all = regrouped (codes "F") (padded 1 c.args.rule) (behind c.args.byte) (refused_part c.in_err-put_labelled.ensures (behind c.args.byte)) in
    refused_guarded all (search rules) (search rules) (search rules)

pub returns-in_err-put_counted : goal.returns-in_err-put_counted
returns-in_err-put_counted c =
    let all = regrouped (codes "F") (padded 1 c.args.rule) (behind c.args.byte) (then_rest c.in_ok-put_labelled.ensures c.in_err-put_counted.ensures) in
    refused_guarded all (search rules) (search rules) (search rules)

pub returns : goal.returns
returns c =
    let all = regrouped (codes "F") (padded 1 c.args.rule) (behind c.args.byte) (then_rest c.in_ok-put_labelled.ensures c.in_ok-put_counted.ensures) in
    accepted_guarded all (search rules) (search rules)
