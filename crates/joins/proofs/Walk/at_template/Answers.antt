-- The first bytes say it of the whole expansion.
use Rattle.std.proofs.Common.{◌≡◌, ap, ◌∙◌}
use Rattle.address.specs.Expansion.{given, expanded}
use Rattle.address.specs.Joining.{absolute, given_of}
use Rattle.address.proofs.Words.{absolute_front}
use Rattle.joins.specs.Joints.{rooted}
use Rattle.joins.proofs.Fronts.{rooted_front}
use Rattle.joins.proofs.Walk.at_template.Goals as goal

pub returns : goal.returns
returns c =
    let p = c.args.parts.now in
    let text = expanded p.template.now (given c.values.result) in
    let is : text ≡ expanded p.template.now (given_of p 0 0) = ap (expanded p.template.now) c.values.ensures in
    let anew : c.is_absolute.result ≡ absolute text = c.is_absolute.ensures ∙ ap absolute c.front-front.ensures.text ∙ absolute_front text in
    let slash : c.is_rooted.result ≡ rooted text = c.is_rooted.ensures ∙ ap rooted c.front-front.ensures.text ∙ rooted_front text in
    cc
