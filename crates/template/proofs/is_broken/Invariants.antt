use Rattle.std.proofs.Common.{◌≡◌, length}
use Rattle.template.specs.Reading.{broken}
use Rattle.template.specs.Left.{pieces_left, left_broken}
use Rattle.template.proofs.is_broken.Given as goal

abbrev pub invariant-loop : goal.invariant-loop
invariant-loop l = left_broken l.pieces ≡ broken l.template

abbrev pub decreases-loop : goal.decreases-loop
decreases-loop l = length (pieces_left l.pieces)
