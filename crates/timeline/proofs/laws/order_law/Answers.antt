use Rattle.timeline.proofs.Order.{at_most_one}
use Rattle.timeline.proofs.laws.order_law.Goals as goal

pub returns : goal.returns
returns c = at_most_one
