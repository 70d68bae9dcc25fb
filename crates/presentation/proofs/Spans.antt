-- The segments of a run lie end to end, so a sum over them is told by where the run begins and ends.
use Rattle.std.proofs.Common.{◌≡◌, ℕ, zero, suc, ◌+◌, ◌-◌, ◌*◌, ◌<◌, ◌≤◌, true, List, [], ◌∷◌, map, length, get_or, take, sum_by, sym, refl, ap, ◌∙◌, add-mul, add-one, arith}
use Rattle.std.specs.List.{range_with_len}
use Rattle.std.proofs.lemmas.List.FromFn.{map-range_with_len_more}
use Rattle.std.proofs.lemmas.List.Sums.{sum_by-cons, sum_by-append, sum_by_push, sum_by_more, sum_by-take-le}
use Rattle.timeline.specs.Laws.Expands.{fair_parts}
use Rattle.timeline.specs.Runs.{nth_of, run_end, run_list, expanded, fair_from}
use Rattle.timeline.specs.Segments.{end}
use Rattle.timeline.specs.declared.run.Run.{Run}
use Rattle.timeline.specs.declared.segment.Segment.{Segment}

-- how much a function rises from the start of a run to its end
abbrev pub span_of : (ℕ → ℕ) → Run → ℕ
span_of f r = f (run_end r) - f r.start

-- a function that does not fall, and how much it rises over a segment
module _ (f : ℕ → ℕ) (rises : (m n : ℕ) → m ≤ n → f m ≤ f n) (g : Segment → ℕ) (is : (s : Segment) → g s ≡ f (end s) - f s.start) where
  telescoped : (number : ℕ) (r : Run) (n : ℕ) → sum_by g (map (nth_of number r) (range_with_len 0 n)) ≡ f (r.start + n * r.length) - f r.start
  telescoped number r zero = let e : r.start + 0 * r.length ≡ r.start = omega arith in rw e (omega arith)
  telescoped number r (suc n) =
      let h = nth_of number r in
      let more : sum_by g (map h (range_with_len 0 (suc n))) ≡ sum_by g (map h (range_with_len 0 n)) + g (h n) =
      ap (λ k. sum_by g (map h (range_with_len 0 k))) (sym (add-one n)) ∙ ap (sum_by g) (map-range_with_len_more h 0 n n (omega arith)) ∙ sum_by_push g (map h (range_with_len 0 n)) (h n) in
      let e : r.start + n * r.length + r.length ≡ r.start + suc n * r.length = omega (arith, add-mul n 1 r.length, add-one n) in
      let last : g (h n) ≡ f (r.start + suc n * r.length) - f (r.start + n * r.length) = rw e at (is (h n)) in
      omega (
        arith,
        telescoped number r n,
        rises r.start (r.start + n * r.length) (omega arith),
        rises (r.start + n * r.length) (r.start + suc n * r.length) (omega arith),
      )

  pub sum_runs : (first : ℕ) (runs : List Run) → sum_by g (expanded first runs) ≡ sum_by (span_of f) runs
  sum_runs first [] = refl
  sum_runs first (r ∷ rs) =
      let xs = run_list first r in
      let ys = expanded (first + r.count) rs in
      omega (
        arith,
        sum_by-append g xs ys,
        telescoped first r r.count,
        sum_runs (first + r.count) rs,
        sum_by-cons (span_of f) r rs,
      )

-- over fair runs a function that rises by at most one a tick rises by no more than the last tick
pub sum-fair : (f : ℕ → ℕ) → ((m n : ℕ) → m ≤ n → f n - f m ≤ n - m) → (from : ℕ) (runs : List Run) → fair_from from runs ≡ true → from ≤ 9007199254740992 → from + sum_by (span_of f) runs ≤ 9007199254740992
sum-fair f slow from [] fair h = omega arith
sum-fair f slow from (r ∷ rs) fair h =
    let p = fair_parts from r rs fair in
    omega (
      arith,
      p.later,
      slow r.start (run_end r) (omega arith),
      sum-fair f slow (run_end r) rs p.rest p.within,
      sum_by-cons (span_of f) r rs,
    )

-- the sum so far and one run more is no later than the last tick
pub sum_room : (f : ℕ → ℕ) → ((m n : ℕ) → m ≤ n → f n - f m ≤ n - m) → (runs : List Run) → fair_from 0 runs ≡ true → (i : ℕ) (d : Run) → i < length runs → sum_by (span_of f) (take i runs) + span_of f (get_or runs i d) ≤ 9007199254740992
sum_room f slow runs fair i d h =
    omega (
      arith,
      sum_by_more (span_of f) runs i d h,
      sum_by-take-le (span_of f) runs (i + 1),
      sum-fair f slow 0 runs fair (omega arith),
    )
