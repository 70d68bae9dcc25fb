use Rattle.std.proofs.Common.{◌≡◌, ◌<◌, length, get_or, take, sym, subst, ◌∙◌, arith}
use Rattle.std.proofs.lemmas.List.{get_or-take, length-take-le}
use Rattle.head.specs.declared.step.Call.TheVariants.{Seek}
use Rattle.head.specs.declared.step.Step.{Step}
use Rattle.head.specs.Sequences.{Output, output_of, left_at, Obeys}
use Rattle.head.proofs.Replaying.{replays_none, replays_turn, stood_next}
use Rattle.head.proofs.sequence.replay.Goals as goal

pub loop-i-init : goal.loop-i-init
loop-i-init g c =
    let t = c.args.timeline.now in (
      c.new-head.ensures.timescale,
      c.new-head.ensures.place,
      replays_none (g.T.Timeline.segments t) (g.T.Timeline.sound t) (g.T.Addressed.address t) c.args.timescale c.args.calls.now c.args.steps.now (output_of c.args.bytes.now c.args.mark.now.used),
    )

pub loop-i-preserved : goal.loop-i-preserved
loop-i-preserved g c =
    let t = c.args.timeline.now in
    let xs = g.T.Timeline.segments t in
    let ok = g.T.Timeline.sound t in
    let address = g.T.Addressed.address t in
    let calls = c.args.calls.now in
    let first = c.args.steps.now in
    let steps = c.loop-i.steps in
    let i = c.loop-i.i in
    let h = c.loop-i.head in
    let o : Output = output_of c.args.bytes.now c.args.mark.now.used in
    let o₁ : Output = output_of c.loop-i.bytes c.loop-i.mark.used in
    let o₂ : Output = output_of c.obey-answer.new.bytes c.obey-answer.new.mark.used in
    let s : Step = record { answer = c.obey-answer.result; place = c.place.result } in
    let n = c.min-performed.result in
    let long : length (take n calls) ≡ n = length-take-le n calls (omega arith) in
    let called : i < length calls = omega arith in
    let noted : i < length steps = omega arith in
    let same : get_or (take n calls) i (Seek 0) ≡ get_or calls i (Seek 0) = get_or-take n calls i (Seek 0) (omega arith) in
    let obeys = subst (λ call. Obeys xs address h.timescale h.place call s.answer c.obey-answer.new.self.place o₁ o₂) same c.obey-answer.ensures.obeys in
    let left = subst (λ call. c.obey-answer.new.self.place ≡ left_at xs h.timescale h.place call) same c.obey-answer.ensures.place in
    let before = c.loop-i.invariant.2 in (
      c.obey-answer.ensures.timescale ∙ c.loop-i.invariant.0,
      sym c.place.ensures ∙ sym (stood_next xs ok address c.args.timescale calls first o steps i s o₁ o₂ called noted before),
      replays_turn xs ok address c.args.timescale calls first o steps i s o₁ o₂ called noted before h.timescale h.place c.obey-answer.new.self.place c.loop-i.invariant.0 c.loop-i.invariant.1 c.place.ensures obeys left,
    )
