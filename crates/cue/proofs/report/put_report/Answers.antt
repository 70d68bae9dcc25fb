-- The answer and the place, one behind the other, are the report.
use Rattle.std.proofs.Common.{rules}
use Rattle.output.proofs.Several.{then_rest, refused_part, refused_guarded, accepted_guarded}
use Rattle.cue.specs.Reports.{place_text}
use Rattle.cue.proofs.report.put_report.Goals as goal

pub returns-in_err-put_answer : goal.returns-in_err-put_answer
returns-in_err-put_answer c =
    let all = refused_part c.in_err-put_answer.ensures (place_text c.args.place) in
    refused_guarded all (search rules) (search rules) (search rules)

pub returns-in_err-put_place : goal.returns-in_err-put_place
returns-in_err-put_place c =
    let all = then_rest c.in_ok-put_answer.ensures c.in_err-put_place.ensures in
    refused_guarded all (search rules) (search rules) (search rules)

pub returns : goal.returns
returns c =
    let all = then_rest c.in_ok-put_answer.ensures c.in_ok-put_place.ensures in
    accepted_guarded all (search rules) (search rules)
