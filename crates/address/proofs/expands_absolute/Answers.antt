-- The first bytes say it of the whole expansion.
use Rattle.std.proofs.Common.{ap, ◌∙◌}
use Rattle.address.specs.Expansion.{given, expanded}
use Rattle.address.specs.Joining.{absolute}
use Rattle.address.proofs.Words.{absolute_front}
use Rattle.address.proofs.expands_absolute.Goals as goal

pub returns : goal.returns
returns c =
    let text = expanded c.args.template.now (given c.args.values) in
    c.is_absolute.ensures ∙ ap absolute c.front.ensures.text ∙ absolute_front text
