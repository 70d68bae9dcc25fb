use Rattle.template.proofs.Words.{begins_from}
use Rattle.template.proofs.begins_at.Goals as goal

pub returns : goal.returns
returns c =
    begins_from c.args.text.now c.args.word.now c.args.at c.min-from.result c.starts_with.result
    c.min-from.ensures c.starts_with.ensures.value
