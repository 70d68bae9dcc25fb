-- The steps of filling a table with the runs of S elements.
use Rattle.std.proofs.Common.{◌≡◌, ℕ, suc, ◌+◌, ◌<◌, ◌≤◌, min, Bool, true, false, not, ◌||◌, ltb, List, [], ◌∷◌, ◌++◌, length, Some, Ok, Err, Option, Result, sym, refl, ap, ◌∙◌, append_assoc, append-nil, arith, length-append, MatchResult}
use Rattle.std.specs.Bool.{then_some}
use Rattle.std.specs.Option.{IfSome}
use Rattle.std.proofs.lemmas.Bool.{and_from, ltb-false, or_parts, or_left, or_right, not_from_false, lt-ltb}
use Rattle.tables.specs.declared.row.Full.{Full}
use Rattle.timeline.specs.Limits.{too_many}
use Rattle.timeline.specs.Runs.{run_end, many, fair_from, fair_runs}
use Rattle.timeline.specs.declared.run.Run.{Run}
use Rattle.expand.specs.Expanding.{start_of, run_of, runs_of, open_ended, some, misplaced_at, misplaced}
use Rattle.expand.specs.declared.stated.Stated.{Stated}
use Rattle.expand.proofs.Places.{counts, few, standing, behind, runs_behind, free_behind, none_behind, behind_on, runs_on, fair_placed}

-- the run with its count cut to what the field holds
abbrev cut : Run → Run
cut r = record { start = r.start; length = r.length; count = min r.count 4294967295 }

cut_small : (r : Run) → r.count ≤ 2147483647 → cut r ≡ r
cut_small r h =
    let e : min r.count 4294967295 ≡ r.count = omega arith in
    let P : ℕ → Run = λ n. record { start = r.start; length = r.length; count = n } in
    ap P e

-- what is known with some S left that can stand from `free` on, after `total` segments
pub record Walk (until rows : ℕ) (ss left : List Stated) (free : Option ℕ) (total : ℕ) (pushed : Result (Unit {0}) Full) (held : List Run) : Type 0 where
  pub placed : misplaced until 0 ss ≡ behind until free left
  pub counted : misplaced until 0 ss ≡ false → many (runs_of until 0 ss) ≡ total + many (runs_behind until free left)
  pub seen : some ss ≡ (ltb 0 total || some left)
  pub short : IfSome free (λ from. (total ≤ from) × (from ≤ 9007199254740992))
  pub stored : MatchResult pushed
      (λ _. (length ss ≡ length held + length left) × (misplaced until 0 ss ≡ false → many (runs_of until 0 ss) ≤ 2147483647 → runs_of until 0 ss ≡ held ++ runs_behind until free left))
      (λ _. (rows < length ss) × (length held ≡ rows))

pub begun : (until rows : ℕ) (ss : List Stated) (held : List Run) → held ≡ [] → Walk until rows ss ss (Some 0) 0 (Ok tt) held
begun until rows ss held h = record {
  placed = refl;
  counted = λ _. omega arith;
  seen = refl;
  short = (omega arith, omega arith);
  stored = (omega (arith, ap length h), λ _ _. ap (λ l. l ++ runs_of until 0 ss) (sym h));
}

-- a place was left, or none
left_over : {P : Type 0} (Q : Type 0) (rows n : ℕ) (pushed : Result (Unit {0}) Full) → MatchResult pushed (λ _. P) (λ _. Q × (n ≡ rows)) → n < rows → P
left_over Q rows n (Ok u) h l = h
left_over Q rows n (Err e) h l = absurd (omega (arith, h.1))

used_up : (Q : Type 0) (rows n m k : ℕ) (pushed : Result (Unit {0}) Full) → MatchResult pushed (λ _. (m ≡ n + suc k) × Q) (λ _. (rows < m) × (n ≡ rows)) → n ≡ rows → rows < m
used_up Q rows n m k (Ok u) h e = omega (arith, h.0)
used_up Q rows n m k (Err f) h e = h.0

some_then : (P : ℕ → Type 0) (b : Bool) (n : ℕ) → P n → IfSome (then_some b n) P
some_then P true n h = h
some_then P false n h = tt

module _ {until rows : ℕ} {ss : List Stated} {s : Stated} {left : List Stated} {from total : ℕ} {pushed : Result (Unit {0}) Full} {held : List Run} (w : Walk until rows ss (s ∷ left) (Some from) total pushed held) where
  module _ (stands : misplaced_at until from s [] ≡ false) where
    abbrev r : Run
    r = run_of until from s

    on : misplaced until 0 ss ≡ behind until (free_behind until from s) left
    on = w.placed ∙ behind_on until from s left stands

    later : misplaced until 0 ss ≡ false → runs_of until (run_end r) left ≡ runs_behind until (free_behind until from s) left
    later ok = runs_on until from s left (sym on ∙ ok)

    all : misplaced until 0 ss ≡ false → many (runs_of until 0 ss) ≡ total + r.count + many (runs_behind until (free_behind until from s) left)
    all ok = omega (arith, w.counted ok, ap many (later ok))

    -- where it ends, and how many segments there are
    pub within : (from + r.count ≤ run_end r) × (run_end r ≤ 9007199254740992) × (1 ≤ r.count)
    within =
        let st = standing until from s [] stands in
        let one = counts until (start_of from s) s.length s.repeat in
        (omega (arith, st.later, few r.count s.length st.long), st.within, one)

    kept : (next : Result (Unit {0}) Full) (after : List Run) → MatchResult next (λ _. (length held < rows) × (after ≡ held ++ cut r ∷ [])) (λ _. (length held ≡ rows) × (after ≡ held)) → MatchResult next
        (λ _. (length ss ≡ length after + length left) × (misplaced until 0 ss ≡ false → many (runs_of until 0 ss) ≤ 2147483647 → runs_of until 0 ss ≡ after ++ runs_behind until (free_behind until from s) left))
        (λ _. (rows < length ss) × (length after ≡ rows))
    kept (Ok u) after p =
        let before = left_over _ rows (length held) pushed w.stored p.0 in
        let grown : length after ≡ length held + 1 = ap length p.1 ∙ length-append held (cut r ∷ []) in
        let rest = runs_behind until (free_behind until from s) left in (
          omega (arith, before.0),
          λ ok small.
              before.1 ok small
              ∙ ap (λ l. held ++ r ∷ l) (later ok)
              ∙ sym (append_assoc held (r ∷ []) rest)
              ∙ ap (λ x. (held ++ x ∷ []) ++ rest) (sym (cut_small r (omega (arith, all ok))))
              ∙ ap (λ l. l ++ rest) (sym p.1),
        )
    kept (Err e) after p =
        (used_up _ rows (length held) (length ss) (length left) pushed w.stored p.0, ap length p.1 ∙ p.0)

    goes : (next : Result (Unit {0}) Full) (after : List Run) → MatchResult next (λ _. (length held < rows) × (after ≡ held ++ cut r ∷ [])) (λ _. (length held ≡ rows) × (after ≡ held)) → Walk until rows ss left (free_behind until from s) (total + r.count) next after
    goes next after p = record {
      placed = on;
      counted = all;
      seen = w.seen ∙ or_right (ltb 0 total) true refl ∙ sym (or_left (ltb 0 (total + r.count)) (some left) (lt-ltb 0 (total + r.count) (omega (arith, within.2))));
      short = some_then (λ end. (total + r.count ≤ end) × (end ≤ 9007199254740992)) (not (open_ended s.repeat)) (run_end r) (omega (arith, w.short.0, within.0), within.1);
      stored = kept next after p;
    }

    -- the same, by the values that were reckoned
    pub goes_on : (next : Result (Unit {0}) Full) {after : List Run} {free : Option ℕ} {start count end : ℕ} {x : Run} → start ≡ r.start → count ≡ r.count → end ≡ run_end r → x ≡ record { start = start; length = s.length; count = min count 4294967295 } → free ≡ then_some (not (open_ended s.repeat)) end → MatchResult next (λ _. (length held < rows) × (after ≡ held ++ x ∷ [])) (λ _. (length held ≡ rows) × (after ≡ held)) → Walk until rows ss left free (total + count) next after
    goes_on next {after = after} {x = x} es ec en ex ef p =
        let is : x ≡ cut r = cc in
        rw (ec, ef, en) (goes next after (rw is at p))

module _ {until rows : ℕ} {ss : List Stated} {free : Option ℕ} {total : ℕ} {pushed : Result (Unit {0}) Full} {held : List Run} (first : ℕ) (w : Walk until rows ss [] free total pushed held) where
  stands : misplaced until 0 ss ≡ false
  stands = w.placed ∙ (none_behind until free).0

  total_is : total ≡ many (runs_of until 0 ss)
  total_is = omega (arith, w.counted stands, ap many (none_behind until free).1)

  -- the runs keep the rules
  pub fair : (u : Unit {0}) → pushed ≡ Ok u → false ≡ too_many first total → fair_runs first held ≡ true
  fair u ok h =
      let small = or_parts (ltb 2147483647 total) (ltb 4294967296 (first + total)) (sym h) in
      let is = sym ((rw ok at w.stored).1 stands (omega (arith, total_is, ltb-false 2147483647 total small.0)) ∙ ap (λ l. held ++ l) (none_behind until free).1 ∙ append-nil held) in
      rw is (and_from (fair_from 0 (runs_of until 0 ss)) _ (fair_placed until 0 ss stands) (not_from_false _ (ap (too_many first) (sym total_is) ∙ sym h)))
