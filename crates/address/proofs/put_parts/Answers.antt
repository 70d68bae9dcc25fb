-- The base URLs that are joined and the expansion are the joined parts.
use Rattle.std.proofs.Common.{rules}
use Rattle.output.proofs.Several.{then_rest, refused_part, refused_guarded, accepted_guarded}
use Rattle.address.specs.Expansion.{given}
use Rattle.address.proofs.Texts.{for_text}
use Rattle.address.proofs.Join.{placed_parts}
use Rattle.address.proofs.put_parts.Goals as goal

pub returns-in_err-put_bases : goal.returns-in_err-put_bases
returns-in_err-put_bases c =
    let whole = placed_parts c.args.parts (given c.args.values) _ _ c.expands_absolute.ensures c.first_joined-start.ensures in
    refused_guarded (for_text whole (refused_part c.in_err-put_bases.ensures _)) (search rules) (search rules) (search rules)

pub returns-in_err-put_pieces : goal.returns-in_err-put_pieces
returns-in_err-put_pieces c =
    let whole = placed_parts c.args.parts (given c.args.values) _ _ c.expands_absolute.ensures c.first_joined-start.ensures in
    refused_guarded (for_text whole (then_rest c.in_ok-put_bases.ensures c.in_err-put_pieces.ensures))
    (search rules) (search rules) (search rules)

pub returns : goal.returns
returns c =
    let whole = placed_parts c.args.parts (given c.args.values) _ _ c.expands_absolute.ensures c.first_joined-start.ensures in
    accepted_guarded (for_text whole (then_rest c.in_ok-put_bases.ensures c.in_ok-put_pieces.ensures)) (search rules) (search rules)
