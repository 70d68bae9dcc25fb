use Rattle.std.proofs.Common.{rules, tests}
use Rattle.std.proofs.lemmas.Iterator.Consumers.{YieldsList-from_first}
use Rattle.std.proofs.lemmas.Iterator.Search.{any_from_yields_List}
use Rattle.template.specs.Left.{pieces_left}
use Rattle.template.specs.Reading.{is_value_of, pieces}
use Rattle.template.proofs.Walks.{stands_tells}
use Rattle.template.proofs.holds.Goals as goal

pub returns : goal.returns
returns c =
    stands_tells c.args.template.now c.any.result c.args.sought
    (any_from_yields_List (is_value_of c.args.sought) c.any.new.self _ c.any.result c.any.ensures.ran
    (YieldsList-from_first (λ p. p) pieces_left (pieces c.args.template.now) c.of.ensures.pieces) (λ x b q k. search (rules, tests)))
