use Rattle.std.proofs.Common.{subst, rules}
use Rattle.output.specs.Text.{Puts}
use Rattle.listing.specs.Lines.{text}
use Rattle.listing.specs.declared.line.Line.TheVariants.{Refused}
use Rattle.full_listing.specs.Lines.{lines_in}
use Rattle.full_listing.specs.Prints.{Prints}
use Rattle.full_listing.specs.declared.printing.Printed.TheVariants.{Line, End}
use Rattle.full_listing.proofs.Outputs.{prints_last, lawful}
use Rattle.full_listing.proofs.printing.Listing.print_at.Goals as goal

pub returns-in-Ok-clause-law : goal.returns-in-Ok-clause-law
returns-in-Ok-clause-law c =
    let ls = lines_in c.args.self.now in
    let written : Prints ls c.args.place c.args.bytes.now c.args.mark.now.used c.put_at.new.bytes c.put_at.new.mark.used Line = search rules in
    lawful ls c.args.place written

pub returns-in-Err-NoSuchPlace-clause-law : goal.returns-in-Err-NoSuchPlace-clause-law
returns-in-Err-NoSuchPlace-clause-law c =
    let ls = lines_in c.args.self.now in
    let written : Prints ls c.args.place c.args.bytes.now c.args.mark.now.used c.put_at.new.bytes c.put_at.new.mark.used End = search rules in
    lawful ls c.args.place written

pub returns-in-Err-NoRoom : goal.returns-in-Err-NoRoom
returns-in-Err-NoRoom c =
    let ls = lines_in c.args.self.now in
    let line = rw c.in-Err-NoRoom.field-0-is at c.in-Err-NoRoom.ensures in
    let put = subst (λ n. Puts c.put_at.new.bytes c.put_at.new.mark.used (text (Refused n)) c.put_line.new.bytes c.put_line.new.mark.used c.put_line.result) c.number.ensures c.put_line.ensures in
    let written = prints_last ls c.args.place line put in
    record { written = written; law = lawful ls c.args.place written }
