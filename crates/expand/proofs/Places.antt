-- Where S elements stand one behind another, and the runs that they give.
use Rattle.std.proofs.Common.{◌≡◌, ℕ, ◌*◌, ◌≤◌, Bool, true, false, not, ◌&&◌, ◌||◌, eqb, ltb, List, [], ◌∷◌, Some, None, Option, ℤ, pos, negsuc, refl, mul-le-mul_left, arith}
use Rattle.std.specs.Bool.{then_some}
use Rattle.std.proofs.lemmas.Bool.{and_from, or_parts, le-leb, eqb-false, ltb-false, true≢false}
use Rattle.timeline.specs.Runs.{run_end, fair_run, fair_from}
use Rattle.timeline.specs.declared.run.Run.{Run}
use Rattle.expand.specs.Expanding.{count_of, start_of, run_of, runs_of, open_ended, some, misplaced_at, misplaced}
use Rattle.expand.specs.declared.stated.Stated.{Stated}

-- an S gives at least one segment
pub counts : (until start length : ℕ) (r : ℤ) → 1 ≤ count_of until start length r
counts until start length (pos r) = omega arith
counts until start length (negsuc k) = omega arith

-- a run has no more segments than ticks
pub few : (count length : ℕ) → 1 ≤ length → count ≤ count * length
few count length h = omega (arith, mul-le-mul_left {m = 1} {n = length} count h)

module _ (until from : ℕ) (s : Stated) where
  -- what is true of one that can stand there
  pub record Standing : Type 0 where
    pub long : 1 ≤ s.length
    pub later : from ≤ start_of from s
    pub within : run_end (run_of until from s) ≤ 9007199254740992

  pub standing : (rest : List Stated) → misplaced_at until from s rest ≡ false → Standing
  standing rest h =
      let end = run_end (run_of until from s) in
      let a = or_parts (eqb s.length 0) _ h in
      let b = or_parts (ltb (start_of from s) from) _ a.1 in
      let c = or_parts (ltb 9007199254740992 end) _ b.1 in
      let long = eqb-false s.length 0 a.0 in
      record { long = omega (arith, long); later = ltb-false (start_of from s) from b.0; within = ltb-false 9007199254740992 end c.0 }

-- whether one of the S cannot stand from there on; nowhere can one stand behind an S that repeats up to the end
abbrev pub behind : ℕ → Option ℕ → List Stated → Bool
behind until None ss = some ss
behind until (Some from) ss = misplaced until from ss

-- their runs, if they can all stand
abbrev pub runs_behind : ℕ → Option ℕ → List Stated → List Run
runs_behind until None ss = []
runs_behind until (Some from) ss = runs_of until from ss

-- from where on the next can stand
abbrev pub free_behind : ℕ → ℕ → Stated → Option ℕ
free_behind until from s = then_some (not (open_ended s.repeat)) (run_end (run_of until from s))

-- behind the last stands none
pub none_behind : (until : ℕ) (free : Option ℕ) → (behind until free [] ≡ false) × (runs_behind until free [] ≡ [])
none_behind until None = (refl, refl)
none_behind until (Some from) = (refl, refl)

module _ (until end : ℕ) where
  -- three tests that do not hang on what stands behind, and whether an S repeats up to the end
  passed : (a b c o : Bool) (ss : List Stated) → (a || (b || (c || (o && false)))) ≡ false → ((a || (b || (c || (o && some ss)))) || misplaced until end ss) ≡ behind until (then_some (not o) end) ss
  passed a b c false ss h = grind arith
  passed a b c true [] h = grind arith
  passed a b c true (s ∷ ss) h = grind arith

  made : (o : Bool) (ss : List Stated) → behind until (then_some (not o) end) ss ≡ false → runs_of until end ss ≡ runs_behind until (then_some (not o) end) ss
  made false ss h = refl
  made true [] h = refl
  made true (s ∷ ss) h = absurd (true≢false h)

module _ (until from : ℕ) (s : Stated) (ss : List Stated) where
  abbrev end : ℕ
  end = run_end (run_of until from s)

  -- the next can, and so it goes on
  pub behind_on : misplaced_at until from s [] ≡ false → misplaced until from (s ∷ ss) ≡ behind until (free_behind until from s) ss
  behind_on h = passed until end (eqb s.length 0) (ltb (start_of from s) from) (ltb 9007199254740992 end) (open_ended s.repeat) ss h

  pub runs_on : behind until (free_behind until from s) ss ≡ false → runs_of until end ss ≡ runs_behind until (free_behind until from s) ss
  runs_on = made until end (open_ended s.repeat) ss

-- the runs of S that are not misplaced keep the rules
pub fair_placed : (until from : ℕ) (ss : List Stated) → misplaced until from ss ≡ false → fair_from from (runs_of until from ss) ≡ true
fair_placed until from [] h = refl
fair_placed until from (s ∷ ss) h =
    let r = run_of until from s in
    let p = or_parts (misplaced_at until from s ss) (misplaced until (run_end r) ss) h in
    let st = standing until from s ss p.0 in
    let one = counts until (start_of from s) s.length s.repeat in
    and_from (fair_run from r) (fair_from (run_end r) (runs_of until (run_end r) ss))
    (and_from _ _ (le-leb 1 r.count one) (and_from _ _ (le-leb 1 r.length st.long) (and_from _ _ (le-leb from r.start st.later) (le-leb (run_end r) 9007199254740992 st.within))))
    (fair_placed until (run_end r) ss p.1)
