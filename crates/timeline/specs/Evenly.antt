-- The even timeline: one run from 0.
use Rattle.std.specs.Prelude.{ℕ, ◌+◌, ◌*◌, ◌/◌, ◌%◌, min, Bool, cond, not, ◌&&◌, List, [], nat_le}
use Rattle.timeline.specs.declared.run.Run.{Run}
use Rattle.timeline.specs.declared.segment.Segment.{Segment}
use Rattle.timeline.specs.Limits.{too_many}
use Rattle.timeline.specs.Runs.{run_list}

abbrev pub even_run : ℕ → ℕ → Run
even_run duration count = record { start = 0; length = duration; count = count }

abbrev pub evenly : ℕ → ℕ → ℕ → List Segment
evenly first duration count = run_list first (even_run duration count)

-- p ÷ d rounded up
abbrev pub ceiling : ℕ → ℕ → ℕ
ceiling p d = p / d + min 1 (p % d)

-- whether n segments of the duration keep the limits
abbrev pub fair : ℕ → ℕ → ℕ → Bool
fair first duration n =
    (nat_le 1 duration && nat_le duration 4294967295)
    && (not (too_many first n) && nat_le (n * duration) 9007199254740992)

-- what the even timeline of any period means
abbrev pub even_list : ℕ → ℕ → ℕ → List Segment
even_list first duration period = cond (fair first duration (ceiling period duration)) (evenly first duration (ceiling period duration)) []
