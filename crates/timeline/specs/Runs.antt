-- The timeline that runs write out.
use Rattle.std.specs.Prelude.{ℕ, ◌+◌, ◌*◌, Bool, true, cond, not, ◌&&◌, List, [], ◌∷◌, ◌++◌, map, nat_le}
use Rattle.std.specs.List.{range_with_len}
use Rattle.timeline.specs.Limits.{too_many}
use Rattle.timeline.specs.declared.run.Run.{Run}
use Rattle.timeline.specs.declared.segment.Segment.{Segment}

-- the zero row
abbrev pub no_run : Run
no_run = record { start = 0; length = 0; count = 0 }

-- the segment at a place of a run whose first segment has the number
abbrev pub nth_of : ℕ → Run → ℕ → Segment
nth_of number r i = record { number = number + i; start = r.start + i * r.length; length = r.length }

-- where a run ends
abbrev pub run_end : Run → ℕ
run_end r = r.start + r.count * r.length

-- the segments of one run, and of one run after another
abbrev pub run_list : ℕ → Run → List Segment
run_list number r = map (nth_of number r) (range_with_len 0 r.count)

abbrev pub expanded : ℕ → List Run → List Segment
expanded first [] = []
expanded first (r ∷ rs) = run_list first r ++ expanded (first + r.count) rs

-- how many segments they are
abbrev pub many : List Run → ℕ
many [] = 0
many (r ∷ rs) = r.count + many rs

-- a run that keeps the rules, after one that ends at a tick
abbrev pub fair_run : ℕ → Run → Bool
fair_run from r = nat_le 1 r.count && (nat_le 1 r.length && (nat_le from r.start && nat_le (run_end r) 9007199254740992))

abbrev pub fair_from : ℕ → List Run → Bool
fair_from from [] = true
fair_from from (r ∷ rs) = fair_run from r && fair_from (run_end r) rs

-- runs that keep the rules: each of them, in their order, and not too many segments in all
abbrev pub fair_runs : ℕ → List Run → Bool
fair_runs first runs = fair_from 0 runs && not (too_many first (many runs))

-- what the written timeline of any runs means
abbrev pub written_list : ℕ → List Run → List Segment
written_list first runs = cond (fair_runs first runs) (expanded first runs) []
