use Rattle.std.proofs.Common.{sym, ap, ◌∙◌, Ok, option_map}
use Rattle.std.proofs.lemmas.Option.{slice_get-map}
use Rattle.listing.specs.Lines.{text, lines}
use Rattle.full_listing.specs.Lines.{found_lines}
use Rattle.full_listing.proofs.Lines.{put_there, full_there}
use Rattle.full_listing.proofs.printing.put_found.Goals as goal

pub returns-in_err-put_line : goal.returns-in_err-put_line
returns-in_err-put_line c =
    let ls = found_lines c.args.elements.now c.args.findings.now in
    let at = slice_get-map text (lines (Ok tt) c.args.elements.now c.args.findings.now) c.args.place ∙ ap (option_map text) (sym c.in-Some.ensures) in
    full_there ls c.args.place at c.in_err-put_line.ensures c.from_residual.ensures.1

pub returns : goal.returns
returns c =
    let ls = found_lines c.args.elements.now c.args.findings.now in
    let at = slice_get-map text (lines (Ok tt) c.args.elements.now c.args.findings.now) c.args.place ∙ ap (option_map text) (sym c.in-Some.ensures) in
    put_there ls c.args.place at c.in_ok-put_line.ensures
