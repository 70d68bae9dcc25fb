use Rattle.std.proofs.Common.{◌∙◌}
use Rattle.joins.proofs.Bytes.{ends_last}
use Rattle.joins.proofs.ends_in_slash.Goals as goal

pub returns : goal.returns
returns c = c.ends_with.ensures.value ∙ ends_last c.args.text.now
