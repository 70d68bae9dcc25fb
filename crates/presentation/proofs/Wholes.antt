-- The sums over the segments of runs, by the sums over the runs.
use Rattle.std.proofs.Common.{◌≡◌, ℕ, ◌+◌, ◌-◌, ◌≤◌, min, max, List, sum_by, sym, ◌∙◌, arith}
use Rattle.timeline.proofs.Parts.{parts_add_up}
use Rattle.timeline.specs.Layers.{shifted, cut_off}
use Rattle.timeline.specs.Runs.{expanded}
use Rattle.timeline.specs.Theorems.{part_before, part_after}
use Rattle.timeline.specs.declared.run.Run.{Run}
use Rattle.presentation.specs.Sums.{lengths, Accounts}
use Rattle.presentation.proofs.Spans.{span_of, sum_runs}

-- the parts of a run before and after a tick, and its length
abbrev pub early : ℕ → Run → ℕ
early tick = span_of (λ n. min n tick)

abbrev pub late : ℕ → Run → ℕ
late tick = span_of (λ n. max n tick)

abbrev pub whole : Run → ℕ
whole = span_of (λ n. n)

module _ (first : ℕ) (runs : List Run) where
  before_is : (tick : ℕ) → sum_by (part_before tick) (expanded first runs) ≡ sum_by (early tick) runs
  before_is tick = sum_runs (λ n. min n tick) (λ m n h. omega arith) (part_before tick) (λ s. omega arith) first runs

  after_is : (tick : ℕ) → sum_by (part_after tick) (expanded first runs) ≡ sum_by (late tick) runs
  after_is tick = sum_runs (λ n. max n tick) (λ m n h. omega arith) (part_after tick) (λ s. omega arith) first runs

  written_is : lengths (expanded first runs) ≡ sum_by whole runs
  written_is = sum_runs (λ n. n) (λ m n h. omega arith) (λ s. s.length) (λ s. omega arith) first runs

  -- what is left of the whole is what is listed
  listed_is : (offset period : ℕ) → lengths (cut_off period (shifted offset (expanded first runs))) + sum_by (early offset) runs + sum_by (late (offset + period)) runs ≡ sum_by whole runs
  listed_is offset period =
      omega (
        arith,
        parts_add_up (expanded first runs) offset period,
        before_is offset,
        after_is (offset + period),
        written_is,
      )

-- the parts left out are no more than the whole
pub parts_fit : (runs : List Run) (offset period : ℕ) → sum_by (early offset) runs + sum_by (late (offset + period)) runs ≤ sum_by whole runs
parts_fit runs offset period = omega (arith, listed_is 0 runs offset period)

-- the sums of the segments, by those of the runs
pub accounts : (runs : List Run) (offset period before after written : ℕ) → before ≡ sum_by (early offset) runs → after ≡ sum_by (late (offset + period)) runs → written ≡ sum_by whole runs → (first : ℕ) → Accounts (expanded first runs) offset period (record { listed = written - before - after; before = before; after = after; written = written })
accounts runs offset period before after written b a w first =
    let all = listed_is first runs offset period in
    record {
      listed = omega arith;
      before = b ∙ sym (before_is first runs offset);
      after = a ∙ sym (after_is first runs (offset + period));
      written = w ∙ sym (written_is first runs);
      whole = omega arith;
    }
