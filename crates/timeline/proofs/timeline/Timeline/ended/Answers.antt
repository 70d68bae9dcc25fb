use Rattle.std.proofs.Common.{◌+◌, ◌-◌, ◌/◌, ◌<◌, length, arith}
use Rattle.std.proofs.lemmas.Bool.Decides.{nat_tests}
use Rattle.timeline.specs.Laws.Splits.{split_counts}
use Rattle.timeline.specs.Laws.Tellings.{told_at, ends_rise}
use Rattle.timeline.proofs.timeline.Timeline.ended.Goals as goal

pub loop-low-preserved-then-is_over : goal.loop-low-preserved-then-is_over
loop-low-preserved-then-is_over g c =
    let m = c.loop-low.low + (c.loop-low.high - c.loop-low.low) / 2 in
    let xs = g.Self.Timeline.segments c.args.self.now in
    let ok = g.Self.Timeline.sound c.args.self.now in
    let tick = c.args.tick in
    let within : m < length xs = omega arith in (
      omega arith,
      c.loop-low.invariant.1,
      (λ i d h.
          let told = told_at xs m d within in
          let rise = ends_rise xs ok i m d (omega arith) within in
          grind (arith, nat_tests)),
      c.loop-low.invariant.3,
    )

pub loop-low-preserved : goal.loop-low-preserved
loop-low-preserved g c =
    let m = c.loop-low.low + (c.loop-low.high - c.loop-low.low) / 2 in
    let xs = g.Self.Timeline.segments c.args.self.now in
    let ok = g.Self.Timeline.sound c.args.self.now in
    let tick = c.args.tick in
    let within : m < length xs = omega arith in (
      omega arith,
      omega arith,
      c.loop-low.invariant.2,
      (λ i d h k.
          let told = told_at xs m d within in
          let rise = ends_rise xs ok m i d h k in
          grind (arith, nat_tests)),
    )

pub returns : goal.returns
returns g c =
    let xs = g.Self.Timeline.segments c.args.self.now in
    let k = c.loop-low.low in
    split_counts xs c.args.tick k record {
      within = omega arith;
      before = c.loop-low.invariant.2;
      after = λ i d h l. c.loop-low.invariant.3 i d (omega arith) l;
    }
