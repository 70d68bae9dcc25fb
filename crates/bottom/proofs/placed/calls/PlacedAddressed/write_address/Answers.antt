use Rattle.std.proofs.Common.{length, sym, refl, subst, arith, rules, tests}
use Rattle.std.proofs.lemmas.Result.{err_from_is_err_and}
use Rattle.timeline.specs.Addresses.{Addressing}
use Rattle.bottom.specs.Placing.{unless, address_at}
use Rattle.bottom.proofs.Told.{told_none, addressing, carried_on}
use Rattle.bottom.proofs.placed.calls.PlacedAddressed.write_address.Goals as goal

pub returns-in_err-segment : goal.returns-in_err-segment
returns-in_err-segment g c =
    let none = told_none (unless c.args.self.now.torn (g.T.Timeline.segments c.args.self.now.below)) c.args.place c.in_err-segment.field-0.0 c.in_err-segment.ensures in
    let err = err_from_is_err_and c.from_residual.result c.from_residual.ensures.1 in
    rw (err.1, err.2) record { there = λ lt. absurd (omega arith); past = λ le. (refl, refl, refl) }

pub returns : goal.returns
returns g c =
    let p = c.args.self.now in
    let xs = g.T.Timeline.segments p.below in
    let on = carried_on c.put_address.result c.map_err.result _ c.map_err.ensures.cases (λ e d k. search (rules, tests)) in
    let puts = rw c.from.ensures at c.put_address.ensures.put in
    let made = addressing p.parts xs p.torn _ p.is c.args.place c.in_ok-segment.segment c.in_ok-segment.ensures c.args.bytes.now c.args.mark.now.used c.put_address.new.bytes c.put_address.new.mark.used c.put_address.result puts in
    subst (λ r. Addressing (length (unless p.torn xs)) c.args.place (address_at p.parts xs c.args.place) c.args.bytes.now c.args.mark.now.used c.put_address.new.bytes c.put_address.new.mark.used r) (sym on) made
