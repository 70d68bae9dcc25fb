-- Each base URL that is present is put behind what is done.
use Rattle.std.proofs.Common.{◌+◌, [], ◌++◌, drop, sym, refl, ap, ◌∙◌, rules, arith}
use Rattle.output.proofs.Several.{then_rest, refused_part, refused_guarded}
use Rattle.address.specs.Joining.{together, present}
use Rattle.address.proofs.Join.{base_more}
use Rattle.address.proofs.Texts.{for_text, put_nothing, more_done}
use Rattle.address.proofs.put_bases.Goals as goal
use Rattle.address.proofs.put_bases.Goals.{in-Some+in_ok-put, in_default}

pub loop-base-init : goal.loop-base-init
loop-base-init c = ([], put_nothing _ _, refl)

pub returns-in_err-put : goal.returns-in_err-put
returns-in_err-put c =
    let rest = together (present (drop (c.loop-base.base-index + 1) c.args.bases.now)) in
    let more = ap (λ bs. together (present bs)) (base_more c.args.bases.now c.loop-base.base-index _ (omega arith) c.in-Some.is) in
    let whole = sym (more_done c.loop-base.invariant.0 c.in-Some.text.now rest c.loop-base.invariant.2 more) in
    refused_guarded (for_text whole (refused_part (then_rest c.loop-base.invariant.1 c.in_err-put.ensures) rest))
    (search rules) (search rules) (search rules)

pub loop-base-preserved : goal.loop-base-preserved
loop-base-preserved c = elim c.match-base.branch [
  | in-Some+in_ok-put w ↦
      let rest = together (present (drop (c.loop-base.base-index + 1) c.args.bases.now)) in
      let more = ap (λ bs. together (present bs)) (base_more c.args.bases.now c.loop-base.base-index _ (omega arith) w.in-Some.is) in (
        c.loop-base.invariant.0 ++ w.in-Some.text.now,
        rw (w.bytes-is, w.guard-is) (then_rest c.loop-base.invariant.1 w.in_ok-put.ensures),
        more_done c.loop-base.invariant.0 w.in-Some.text.now rest c.loop-base.invariant.2 more,
      )
  | in_default w ↦
      let more = ap (λ bs. together (present bs)) (base_more c.args.bases.now c.loop-base.base-index _ (omega arith) w.in_default.is) in (
        c.loop-base.invariant.0,
        rw (w.bytes-is, w.guard-is) c.loop-base.invariant.1,
        c.loop-base.invariant.2 ∙ ap (λ t. c.loop-base.invariant.0 ++ t) more,
      )
]
