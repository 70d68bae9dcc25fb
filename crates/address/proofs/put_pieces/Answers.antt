-- Each piece is put behind what is done.
use Rattle.std.proofs.Common.{◌++◌, sym, ap, rules}
use Rattle.output.proofs.Several.{then_rest, refused_part, refused_guarded}
use Rattle.template.specs.Left.{pieces_left}
use Rattle.address.specs.Expansion.{given, meaning, meanings}
use Rattle.address.proofs.Texts.{for_text, more_done}
use Rattle.address.proofs.put_pieces.Goals as goal

pub pieces-preserved : goal.pieces-preserved
pieces-preserved c =
    let v = given c.args.values in
    let part = meaning v c.in-Some.piece in
    let rest = meanings v (pieces_left c.next.new.self) in (
      c.pieces.invariant.0 ++ part,
      then_rest c.pieces.invariant.1 c.in_ok-put_piece.ensures,
      more_done c.pieces.invariant.0 part rest c.pieces.invariant.2 (ap (meanings v) c.in-Some.ensures.steps),
    )

pub returns-in_err-put_piece : goal.returns-in_err-put_piece
returns-in_err-put_piece c =
    let v = given c.args.values in
    let part = meaning v c.in-Some.piece in
    let rest = meanings v (pieces_left c.next.new.self) in
    let whole = sym (more_done c.pieces.invariant.0 part rest c.pieces.invariant.2 (ap (meanings v) c.in-Some.ensures.steps)) in
    refused_guarded (for_text whole (refused_part (then_rest c.pieces.invariant.1 c.in_err-put_piece.ensures) rest))
    (search rules) (search rules) (search rules)
