use Rattle.std.proofs.Common.{◌≡◌, ◌+◌, ◌<◌, false, sym, ap, subst, arith, rules}
use Rattle.timeline.specs.Segments.{ended_by, within_of}
use Rattle.head.specs.declared.fault.HeadFault.TheVariants.{OutOfRange, NoneCovers}
use Rattle.head.specs.Heads.{to, refused, seekable, tick_of, sought, reply, moved}
use Rattle.head.proofs.Seeking.{out_of_range, seeks_by, none_found, one_found, never_two}
use Rattle.head.proofs.head.Head.seek.Goals as goal

pub returns-then-ms-gt-LATEST-clause-law : goal.returns-then-ms-gt-LATEST-clause-law
returns-then-ms-gt-LATEST-clause-law g c =
    let t = c.args.timeline.now in
    let h = c.args.self.now in
    let out : seekable h.timescale c.args.ms ≡ false = search rules in
    seeks_by (g.T.Timeline.segments t) (g.T.Timeline.sound t) h.timescale c.args.ms h.place (refused OutOfRange) (out_of_range (g.T.Timeline.segments t) (g.T.Timeline.sound t) h.timescale c.args.ms out)

pub returns-in-0 : goal.returns-in-0
returns-in-0 g c =
    let t = c.args.timeline.now in
    let h = c.args.self.now in
    let xs = g.T.Timeline.segments t in
    let ok = g.T.Timeline.sound t in
    let ms = c.args.ms in
    let w : c.within.result ≡ within_of xs (tick_of h.timescale ms) (tick_of h.timescale ms + 1) = cc in
    let e : sought xs h.timescale ms ≡ refused NoneCovers = none_found xs ok h.timescale ms (omega arith) (omega arith) (omega arith) (omega (arith, w)) in
    record { answer = ap reply (sym e); head = ap (moved h) (sym e); law = seeks_by xs ok h.timescale ms h.place (refused NoneCovers) e }

pub returns-in-1 : goal.returns-in-1
returns-in-1 g c =
    let t = c.args.timeline.now in
    let h = c.args.self.now in
    let xs = g.T.Timeline.segments t in
    let ok = g.T.Timeline.sound t in
    let ts = h.timescale in
    let ms = c.args.ms in
    let w : c.within.result ≡ within_of xs (tick_of ts ms) (tick_of ts ms + 1) = cc in
    let some : 0 < within_of xs (tick_of ts ms) (tick_of ts ms + 1) = omega (arith, w) in
    let same : ended_by xs (tick_of ts ms) ≡ c.ended.result = cc in
    let e : sought xs ts ms ≡ to c.ended.result = subst (λ p. sought xs ts ms ≡ to p) same (one_found xs ok ts ms (omega arith) (omega arith) (omega arith) some) in
    record { answer = ap reply (sym e); head = ap (moved h) (sym e); law = seeks_by xs ok ts ms h.place (to c.ended.result) e }

pub returns-in_default : goal.returns-in_default
returns-in_default g c =
    let t = c.args.timeline.now in
    let xs = g.T.Timeline.segments t in
    let ts = c.args.self.now.timescale in
    let ms = c.args.ms in
    let w : c.within.result ≡ within_of xs (tick_of ts ms) (tick_of ts ms + 1) = cc in
    absurd (never_two xs (g.T.Timeline.sound t) ts ms (omega (arith, w)))
