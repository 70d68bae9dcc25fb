-- What the pieces leave is what the expansion leaves, a refusal is passed on as a fault.
use Rattle.std.proofs.Common.{Err, sym, refl, ap, ◌∙◌}
use Rattle.std.proofs.lemmas.Result.{err_from_is_err_and}
use Rattle.address.specs.Expansion.{given}
use Rattle.address.proofs.Texts.{put_unless, expands}
use Rattle.address.proofs.put_expanded.Goals as goal

pub returns-in_err-put_pieces : goal.returns-in_err-put_pieces
returns-in_err-put_pieces c =
    let p = err_from_is_err_and c.from_residual.result c.from_residual.ensures.1 in
    record {
      put = put_unless (sym c.if-is_broken.ensures.value) c.in_err-put_pieces.ensures (p.1 ∙ ap Err p.2);
      only = expands (given c.args.values) c.args.template.now;
    }

pub returns : goal.returns
returns c = record {
  put = put_unless (sym c.if-is_broken.ensures.value) c.in_ok-put_pieces.ensures refl;
  only = expands (given c.args.values) c.args.template.now;
}
