use Rattle.timeline.proofs.Parts.{parts_add_up}
use Rattle.timeline.proofs.laws.sum_law.Goals as goal

pub returns : goal.returns
returns c = parts_add_up
