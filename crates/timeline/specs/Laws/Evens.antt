-- One run is within the limits and in order, and so is the even timeline.
use Rattle.std.specs.Prelude.{ℕ, ◌+◌, ◌^◌, ◌<◌, ◌≤◌}
use Rattle.std.proofs.Common.{arith}
use Rattle.timeline.specs.declared.run.Run.{Run}
use Rattle.timeline.specs.Segments.{Sound}
use Rattle.timeline.specs.Runs.{run_end, run_list}
use Rattle.timeline.specs.Laws.Expands.{length_run, limited_run, ordered_run}

pub sound_run : (number : ℕ) (r : Run) → r.count < 2 ^ 31 → 1 ≤ r.length → number + r.count ≤ 2 ^ 32 → run_end r ≤ 2 ^ 53 → Sound (run_list number r)
sound_run number r few long numbers within = record {
  few = rw (length_run number r) few;
  limited = limited_run number r long (omega arith) (omega arith);
  order = λ i d h. let k : i + 1 < r.count = rw (length_run number r) at h in ordered_run number r i d k;
}
