use Rattle.std.proofs.Common.{◌≡◌, false, [], is_some, Some, None, Option, sym, ◌∙◌}
use borrow.Author.Tests.{clash}
use Rattle.std.specs.Iterator.{YieldsFirst}
use Rattle.template.specs.Left.{pieces_left}
use Rattle.template.specs.declared.Piece.{Piece}
use Rattle.template.specs.declared.Pieces.{Pieces}
use Rattle.template.proofs.Walks.{broken_stop, broken_tells}
use Rattle.template.proofs.is_broken.Goals as goal

none_left : (s u : Pieces) (o : Option Piece) → YieldsFirst pieces_left s o u → is_some o ≡ false → pieces_left u ≡ []
none_left s u None steps e = steps.1
none_left s u (Some p) steps e = absurd (clash (sym e))

pub returns : goal.returns
returns c =
    let last = none_left c.loop.pieces c.advance.new.self c.advance.result c.advance.ensures.steps (sym c.is_some.ensures ∙ c.loop-test.false) in
    broken_tells c.args.template.now _
    (broken_stop c.advance.new.self.rest.now last c.is_empty.result c.is_empty.ensures ∙ c.advance.ensures.broken ∙ c.loop.invariant)
