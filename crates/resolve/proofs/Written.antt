-- What a manifest writes is the sum of its segments' lengths, and what is listed and cut away adds up to it.
use Rattle.std.proofs.Common.{◌≡◌, ℕ, ◌*◌, List, [], ◌∷◌, sum_by, sym, ap, ◌∙◌, append-nil, arith}
use mathlib.Core.Path.{fun_ext}
use Rattle.presentation.specs.Sums.{lengths}
use Rattle.presentation.specs.declared.plan.Kind.{Kind}
use Rattle.presentation.specs.declared.plan.Kind.TheVariants.{Written, Even}
use Rattle.presentation.proofs.Spans.{span_of, sum_runs}
use Rattle.timeline.specs.Evenly.{even_run, evenly, ceiling}
use Rattle.timeline.specs.Runs.{expanded}
use Rattle.timeline.specs.declared.run.Run.{Run}
use Rattle.timeline.proofs.Parts.{parts_add_up}
use Rattle.resolve.specs.Values.{Values, defined_by, bottom_by, written_by, AddsUp}

written_runs : (first : ℕ) (runs : List Run) → lengths (expanded first runs) ≡ sum_by (λ r. r.count * r.length) runs
written_runs first runs =
    let whole : span_of (λ n. n) ≡ (λ r. r.count * r.length) = fun_ext (λ r. omega arith) in
    sum_runs (λ n. n) (λ m n h. omega arith) (λ s. s.length) (λ s. omega arith) first runs ∙ ap (λ f. sum_by f runs) whole

written_evenly : (first duration count : ℕ) → lengths (evenly first duration count) ≡ count * duration
written_evenly first duration count =
    ap lengths (sym (append-nil (evenly first duration count)))
    ∙ written_runs first (even_run duration count ∷ [])
    ∙ omega arith

pub written_of : (kind : Kind) (first period : ℕ) (runs : List Run) → lengths (defined_by kind first period runs) ≡ written_by kind period runs
written_of Written first period runs = written_runs first runs
written_of (Even duration) first period runs = written_evenly first duration (ceiling period duration)

pub adds_up : (v : Values) (runs : List Run) → AddsUp v runs
adds_up v runs = parts_add_up (bottom_by v runs) v.offset v.period ∙ written_of v.kind v.first v.period runs
