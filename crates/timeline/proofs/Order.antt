-- At most one segment covers a tick.
use Rattle.std.proofs.Common.{arith}
use Rattle.std.proofs.lemmas.Bool.Decides.{nat_tests}
use Rattle.timeline.specs.Segments.{blank}
use Rattle.timeline.specs.Laws.Tellings.{in_order}
use Rattle.timeline.specs.Theorems.{AtMostOne}

pub at_most_one : AtMostOne
at_most_one xs ok tick i j hi hj ci cj =
    let before = in_order xs ok i j blank in
    let after = in_order xs ok j i blank in
    grind (arith, nat_tests)
