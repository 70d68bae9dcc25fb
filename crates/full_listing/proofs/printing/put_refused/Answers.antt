use Rattle.std.proofs.Common.{◌≡◌, slice_get, Some, arith}
use Rattle.listing.specs.Lines.{text}
use Rattle.listing.specs.declared.line.Line.TheVariants.{Refused}
use Rattle.full_listing.specs.Lines.{refused_lines}
use Rattle.full_listing.proofs.Lines.{put_there, full_there}
use Rattle.full_listing.proofs.printing.put_refused.Goals as goal

pub returns-in_err-put_line : goal.returns-in_err-put_line
returns-in_err-put_line c =
    let first : c.args.place ≡ 0 = omega arith in
    let at : slice_get (refused_lines c.args.fault) c.args.place ≡ Some (text (Refused c.number.result)) = rw (first, c.number.ensures) in
    full_there (refused_lines c.args.fault) c.args.place at c.in_err-put_line.ensures c.from_residual.ensures.1

pub returns : goal.returns
returns c =
    let first : c.args.place ≡ 0 = omega arith in
    let at : slice_get (refused_lines c.args.fault) c.args.place ≡ Some (text (Refused c.number.result)) = rw (first, c.number.ensures) in
    put_there (refused_lines c.args.fault) c.args.place at c.in_ok-put_line.ensures
