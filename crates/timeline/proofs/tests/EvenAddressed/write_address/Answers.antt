use Rattle.std.proofs.Common.{◌+◌, ◌%◌, [], ◌∷◌, length, Ok, Err, arith}
use Rattle.std.proofs.lemmas.Result.{err_from_is_err_and}
use Rattle.timeline.specs.Bottoms.{of_even}
use Rattle.timeline.proofs.Writes.{wrote}
use Rattle.timeline.proofs.tests.EvenAddressed.write_address.Goals as goal

pub returns-in_err-put : goal.returns-in_err-put
returns-in_err-put c =
    let place = c.args.place in
    let p = err_from_is_err_and c.from_residual.result c.from_residual.ensures.1 in
    rw (p.1, p.2) (wrote (length (of_even c.args.self.now)) place ((48 + place % 10) ∷ []) c.args.bytes.now c.put.new.bytes c.args.mark.now.used c.put.new.mark.used (Err c.in_err-put.field-0.0) (omega arith) c.in_err-put.ensures)

pub returns : goal.returns
returns c =
    let place = c.args.place in
    wrote (length (of_even c.args.self.now)) place ((48 + place % 10) ∷ []) c.args.bytes.now c.put.new.bytes c.args.mark.now.used c.put.new.mark.used (Ok tt) (omega arith) c.in_ok-put.ensures
