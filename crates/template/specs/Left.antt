-- The pieces that an iterator has left, and whether a break follows them.
use Rattle.std.specs.Prelude.{Bool, List}
use Rattle.template.specs.declared.Piece.{Piece}
use Rattle.template.specs.declared.Pieces.{Pieces}
use Rattle.template.specs.Reading.{pieces, broken}

abbrev pub pieces_left : Pieces → List Piece
pieces_left it = pieces it.rest.now

abbrev pub left_broken : Pieces → Bool
left_broken it = broken it.rest.now
