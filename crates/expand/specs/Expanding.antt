-- S elements as runs.
use Rattle.std.specs.Prelude.{ℕ, ◌+◌, ◌-◌, max, Bool, true, false, cond, not, ◌&&◌, ◌||◌, List, [], ◌∷◌, length, ℤ, pos, negsuc, Ok, Err, Result, ◌==◌, nat_lt}
use Rattle.std.specs.Option.{unwrap_or}
use Rattle.timeline.specs.Evenly.{ceiling}
use Rattle.timeline.specs.Limits.{too_many}
use Rattle.timeline.specs.Runs.{run_end, many}
use Rattle.timeline.specs.declared.run.Run.{Run}
use Rattle.expand.specs.declared.fault.RunFault.{RunFault}
use Rattle.expand.specs.declared.fault.RunFault.TheVariants.{Misplaced, RunsFull, TooMany}
use Rattle.expand.specs.declared.stated.Stated.{Stated}

-- how many segments an S gives: one more than it repeats; at -1 as many as begin before `until`, at least one
abbrev pub count_of : ℕ → ℕ → ℕ → ℤ → ℕ
count_of until start length (pos r) = r + 1
count_of until start length (negsuc k) = max 1 (ceiling (until - start) length)

-- where an S starts, behind one that ends at `from`
abbrev pub start_of : ℕ → Stated → ℕ
start_of from s = unwrap_or s.time from

-- the run of an S, and of one S after another
abbrev pub run_of : ℕ → ℕ → Stated → Run
run_of until from s = record { start = start_of from s; length = s.length; count = count_of until (start_of from s) s.length s.repeat }

abbrev pub runs_of : ℕ → ℕ → List Stated → List Run
runs_of until from [] = []
runs_of until from (s ∷ ss) = run_of until from s ∷ runs_of until (run_end (run_of until from s)) ss

-- whether an S repeats up to the end
abbrev pub open_ended : ℤ → Bool
open_ended (pos r) = false
open_ended (negsuc k) = true

abbrev pub some : {X : Type 0} → List X → Bool
some [] = false
some (x ∷ xs) = true

-- whether an S cannot stand behind one that ends at `from`, in front of the rest:
-- its length is 0, it starts before that end, it ends after 2^53, or it repeats up to the end and is not the last
abbrev pub misplaced_at : ℕ → ℕ → Stated → List Stated → Bool
misplaced_at until from s rest =
    (s.length == 0)
    || (nat_lt (start_of from s) from
    || (nat_lt 9007199254740992 (run_end (run_of until from s))
    || (open_ended s.repeat && some rest)))

abbrev pub misplaced : ℕ → ℕ → List Stated → Bool
misplaced until from [] = false
misplaced until from (s ∷ ss) = misplaced_at until from s ss || misplaced until (run_end (run_of until from s)) ss

-- what comes of S elements, where the table of runs has `rows` rows: the first refusal that applies
abbrev pub expanding : ℕ → ℕ → ℕ → List Stated → Result (Unit {0}) RunFault
expanding until first rows ss =
    cond (not (some ss) || misplaced until 0 ss) (Err Misplaced)
    (cond (nat_lt rows (length ss)) (Err RunsFull)
    (cond (too_many first (many (runs_of until 0 ss))) (Err TooMany) (Ok tt)))
