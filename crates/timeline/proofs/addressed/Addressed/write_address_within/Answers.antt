use Rattle.std.proofs.Common.{◌≡◌, ◌+◌, ◌<◌, ◌≤◌, length, refl, ap, ◌∙◌, inl, inr, arith}
use Rattle.std.proofs.lemmas.Bool.{cases_lt}
use Rattle.timeline.specs.Segments.{blank, begun_by, ended_by, within_of, under_way}
use Rattle.timeline.specs.Laws.Splits.{counts_split, counts_begun}
use Rattle.timeline.proofs.Asked.{begins_at, waits_at, within_is}
use Rattle.timeline.proofs.Writes.{moved, refused}
use Rattle.timeline.proofs.addressed.Addressed.write_address_within.Goals as goal

pub returns : goal.returns
returns g c =
    let t = c.args.self.now in
    let xs = g.Self.Timeline.segments t in
    let ok = g.Self.Timeline.sound t in
    let from = c.args.from in
    let to = c.args.to in
    let n = c.args.nth in
    let p = c.saturating_add-place.result in
    let k = ended_by xs from in
    let b = begun_by xs to in
    let address = g.Self.Addressed.address t in
    let begun = counts_begun xs ok to b refl in
    let many = within_is xs from k (counts_split xs ok from k refl) to b begun in
    let there = begins_at xs p to c.is_under_way.result (c.is_under_way.ensures ∙ ap (under_way to) c.segment.ensures) c.if-not-is_under_way.false in
    let e : p ≡ k + n = omega (arith, ok.few, there.0, c.saturating_add-place.ensures, c.ended.ensures) in
    let before : p < b = elim (cases_lt p b) [ inl l ↦ l | inr l ↦ absurd (omega (arith, begun.after p blank l there.0, there.1)) ] in
    moved (length xs) (within_of xs from to) p n (address p) (address (k + n)) c.args.bytes.now c.write_address.new.bytes c.args.mark.now.used c.write_address.new.mark.used c.write_address.result
    (λ h. there.0) (λ h. absurd (omega arith)) (λ _. ap address e) c.write_address.ensures

pub returns-then-not-is_under_way : goal.returns-then-not-is_under_way
returns-then-not-is_under_way g c =
    let t = c.args.self.now in
    let xs = g.Self.Timeline.segments t in
    let ok = g.Self.Timeline.sound t in
    let from = c.args.from in
    let to = c.args.to in
    let n = c.args.nth in
    let p = c.saturating_add-place.result in
    let k = ended_by xs from in
    let b = begun_by xs to in
    let begun = counts_begun xs ok to b refl in
    let many = within_is xs from k (counts_split xs ok from k refl) to b begun in
    let late : b ≤ k + n = elim (cases_lt (k + n) b) [
      | inl l ↦
          let e : p ≡ k + n = omega (arith, ok.few, begun.within, c.saturating_add-place.ensures, c.ended.ensures) in
          let within : p < length xs = omega (arith, begun.within) in
          let waits = waits_at xs p to c.is_under_way.result (c.is_under_way.ensures ∙ ap (under_way to) c.segment.ensures) c.if-not-is_under_way.true within in
          absurd (omega (arith, begun.before p blank (omega arith)))
      | inr l ↦ l
    ] in
    rw c.into.ensures (refused (within_of xs from to) n (g.Self.Addressed.address t (k + n)) c.args.bytes.now c.args.mark.now.used (omega arith))
