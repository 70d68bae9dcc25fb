use Rattle.std.proofs.Common.{◌∙◌, refl, ap, ◌^◌, arith, rules, tests}
use Rattle.std.proofs.lemmas.Iterator.{YieldsList-from_slice, YieldsList-from_map}
use Rattle.std.proofs.lemmas.Iterator.Consumers.{sum_by_from_yields_List, fits_by_from_yields_list}
use Rattle.std.proofs.lemmas.Iterator.Adapters.{serves_from_places}
use Rattle.std.proofs.lemmas.Bool.{and_parts}
use Rattle.timeline.specs.declared.run.Run.{Run}
use Rattle.timeline.specs.Segments.{ended_by}
use Rattle.timeline.specs.Runs.{run_list, expanded}
use Rattle.timeline.specs.Laws.Splits.{ended_within}
use Rattle.timeline.specs.Laws.Expands.{sound_expanded}
use Rattle.timeline.proofs.Walks.{ended_expanded, fair_at}
use Rattle.timeline.proofs.written.calls.WrittenTimeline.ended.Goals as goal

pub sum-requires-clause-can : goal.sum-requires-clause-can
sum-requires-clause-can c =
    let t = c.args.self.now in
    (tt, serves_from_places (YieldsList-from_slice t.runs.now cc) (λ x q k. search rules) (λ x k here e _ _ _ _ _ _. omega (arith, (fair_at 0 t.runs.now (and_parts _ _ t.fair).0 k x.now here).0, ap (λ (r : Run). r.length) e)))

pub sum-requires-clause-fits : goal.sum-requires-clause-fits
sum-requires-clause-fits c =
    let t = c.args.self.now in
    let tick = c.args.tick in
    let xs = expanded t.first t.runs.now in
    let all = ended_expanded 0 t.first t.runs.now tick (and_parts _ _ t.fair).0 in
    fits_by_from_yields_list (λ r. ended_by (run_list 0 r) tick) t.runs.now c.map.result (2 ^ 32) (YieldsList-from_map _ (λ r. ended_by (run_list 0 r) tick) (YieldsList-from_slice t.runs.now cc) c.map.ensures.closure (λ x r q k. search (rules, tests)))
    (omega (arith, all, ended_within xs tick (ended_by xs tick) refl, (sound_expanded t.first t.runs.now t.fair).few))

pub returns : goal.returns
returns c =
    let t = c.args.self.now in
    let tick = c.args.tick in
    sum_by_from_yields_List (λ r. ended_by (run_list 0 r) tick) t.runs.now c.map.result c.sum.result c.sum.ensures.ran (YieldsList-from_map _ (λ r. ended_by (run_list 0 r) tick) (YieldsList-from_slice t.runs.now cc) c.map.ensures.closure (λ x r q k. search (rules, tests)))
    ∙ ended_expanded 0 t.first t.runs.now tick (and_parts _ _ t.fair).0
