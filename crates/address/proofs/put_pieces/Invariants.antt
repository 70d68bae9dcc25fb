-- What was put and what the pieces that are left give are the whole expansion.
use Rattle.std.proofs.Common.{◌≡◌, ℕ, List, ◌++◌, Ok}
use Rattle.output.specs.Text.{Puts}
use Rattle.template.specs.Left.{pieces_left}
use Rattle.address.specs.Expansion.{given, meanings, expanded}
use Rattle.address.proofs.put_pieces.Given as goal

abbrev pub invariant-pieces : goal.invariant-pieces
invariant-pieces l =
    (done : List ℕ)
    × Puts l.initial.bytes l.initial.guard.mark.now.used done l.bytes l.guard.mark.now.used (Ok tt)
    × (expanded l.template (given l.values) ≡ done ++ meanings (given l.values) (pieces_left l.piece-iterator))
