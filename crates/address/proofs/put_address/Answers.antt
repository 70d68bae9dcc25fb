-- What the parts leave is what the address leaves, a refusal is passed on as a fault.
use Rattle.std.proofs.Common.{Err, sym, refl, ap, ◌∙◌}
use Rattle.std.proofs.lemmas.Result.{err_from_is_err_and}
use Rattle.address.specs.Joining.{joined, parts_with, parts_of, given_of}
use Rattle.address.proofs.Texts.{for_text, put_unless, expands}
use Rattle.address.proofs.Join.{begun}
use Rattle.address.proofs.put_address.Goals as goal

pub returns-then-is_broken-clause-begun : goal.returns-then-is_broken-clause-begun
returns-then-is_broken-clause-begun c = begun (parts_of c.args.parts.now c.args.number c.args.time)

pub returns-then-is_broken-clause-only : goal.returns-then-is_broken-clause-only
returns-then-is_broken-clause-only c = expands (given_of c.args.parts.now c.args.number c.args.time) c.args.parts.now.template.now

pub returns-in_err-put_parts : goal.returns-in_err-put_parts
returns-in_err-put_parts c =
    let p = err_from_is_err_and c.from_residual.result c.from_residual.ensures.1 in
    let same = ap (λ v. joined (parts_with c.args.parts.now v)) c.values.ensures in
    record {
      put = put_unless (sym c.if-is_broken.ensures.value) (for_text same c.in_err-put_parts.ensures) (p.1 ∙ ap Err p.2);
      begun = begun (parts_of c.args.parts.now c.args.number c.args.time);
      only = expands (given_of c.args.parts.now c.args.number c.args.time) c.args.parts.now.template.now;
    }

pub returns : goal.returns
returns c =
    let same = ap (λ v. joined (parts_with c.args.parts.now v)) c.values.ensures in
    record {
      put = put_unless (sym c.if-is_broken.ensures.value) (for_text same c.in_ok-put_parts.ensures) refl;
      begun = begun (parts_of c.args.parts.now c.args.number c.args.time);
      only = expands (given_of c.args.parts.now c.args.number c.args.time) c.args.parts.now.template.now;
    }
