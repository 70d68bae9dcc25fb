use Rattle.std.proofs.Common.{◌≡◌, Ok, Err, sym, rules}
use Rattle.head.specs.Refusals.{of_address}
use Rattle.head.proofs.Writing.{puts_address}
use Rattle.head.proofs.head.Head.address.Goals as goal

pub returns-in_err-write_address : goal.returns-in_err-write_address
returns-in_err-write_address g c =
    let t = c.args.timeline.now in
    let xs = g.T.Timeline.segments t in
    let address = g.T.Addressed.address t in
    let place = c.args.self.now.place in
    let p = c.in_ok-place.place in
    let e = c.in_err-write_address.field-0.0 in
    let is : c.from_residual-in_err-write_address.result ≡ Err (of_address e) = search rules in
    rw is (puts_address xs address place p c.args.bytes.now c.args.mark.now.used c.write_address.new.bytes c.write_address.new.mark.used (Err e) (sym c.in_ok-place.ensures) c.in_err-write_address.ensures)

pub returns : goal.returns
returns g c =
    let t = c.args.timeline.now in
    let xs = g.T.Timeline.segments t in
    let address = g.T.Addressed.address t in
    let place = c.args.self.now.place in
    let p = c.in_ok-place.place in
    puts_address xs address place p c.args.bytes.now c.args.mark.now.used c.write_address.new.bytes c.write_address.new.mark.used (Ok tt) (sym c.in_ok-place.ensures) c.in_ok-write_address.ensures
