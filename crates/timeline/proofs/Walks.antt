-- What a walk over the runs finds.
use Rattle.std.proofs.Common.{◌≡◌, ℕ, zero, suc, ◌+◌, ◌-◌, ◌/◌, ◌<◌, ◌≤◌, min, true, leb, List, [], ◌∷◌, ◌++◌, length, get_or, drop, Ok, Err, filter, sym, refl, ap, ◌∙◌, mul-le-mul_right, add-mul, div-mul-le_self, arith}
use native.Mathlib.Nat.{lt-div-mul-add}
use Rattle.std.specs.List.{sum_by}
use Rattle.std.proofs.lemmas.List.{length-append, at_drop_more}
use Rattle.std.proofs.lemmas.List.Sums.{sum_by-cons}
use Rattle.std.proofs.lemmas.List.Elements.{filter-append}
use Rattle.timeline.specs.declared.run.Run.{Run}
use Rattle.timeline.specs.declared.segment.Segment.{Segment}
use Rattle.timeline.specs.declared.written.Written.{Written}
use Rattle.timeline.specs.Bottoms.{of_written, sound_written}
use Rattle.timeline.specs.Refusals.{no_such_place}
use Rattle.timeline.specs.Segments.{end, blank, told, ended_by, Limited}
use Rattle.timeline.specs.Runs.{no_run, nth_of, run_end, run_list, expanded, fair_from}
use Rattle.timeline.specs.Laws.Tellings.{told_at, told_past}
use Rattle.timeline.specs.Laws.Splits.{Split, split_counts}
use Rattle.timeline.specs.Laws.Expands.{length_run, get_or-run, fair_parts}
use Rattle.timeline.proofs.Asked.{stands}

-- what is told of a place, by whether it is in the first run
pub told_run : (number : ℕ) (r : Run) (i : ℕ) → i < r.count → told (run_list number r) i ≡ Ok (nth_of number r i)
told_run number r i h = told_at (run_list number r) i blank (rw length_run h) ∙ ap Ok (get_or-run number r i blank h)

pub untold_run : (number : ℕ) (r : Run) (i : ℕ) → r.count ≤ i → told (run_list number r) i ≡ Err no_such_place
untold_run number r i h = told_past (run_list number r) i (rw length_run h)

told_first : (xs ys : List Segment) (i : ℕ) → i < length xs → told (xs ++ ys) i ≡ told xs i
told_first [] ys i h = absurd (omega arith)
told_first (x ∷ xs) ys zero h = refl
told_first (x ∷ xs) ys (suc i) h = told_first xs ys i (omega arith)

told_later : (xs ys : List Segment) (i : ℕ) → length xs ≤ i → told (xs ++ ys) i ≡ told ys (i - length xs)
told_later [] ys i h = ap (told ys) (omega arith)
told_later (x ∷ xs) ys zero h = absurd (omega arith)
told_later (x ∷ xs) ys (suc i) h = told_later xs ys i (omega arith) ∙ ap (told ys) (omega arith)

module _ (number : ℕ) (runs : List Run) (i : ℕ) (d : Run) (here : i < length runs) where
  pub told_stop : (left : ℕ) → left < (get_or runs i d).count → told (expanded number (drop i runs)) left ≡ Ok (nth_of number (get_or runs i d) left)
  told_stop left h =
      let r = get_or runs i d in
      at_drop_more (λ rs. told (expanded number rs) left) runs i d here
      ∙ told_first (run_list number r) (expanded (number + r.count) (drop (i + 1) runs)) left (rw length_run h)
      ∙ told_run number r left h

  pub told_step : (left : ℕ) → (get_or runs i d).count ≤ left → told (expanded number (drop i runs)) left ≡ told (expanded (number + (get_or runs i d).count) (drop (i + 1) runs)) (left - (get_or runs i d).count)
  told_step left h =
      let r = get_or runs i d in
      let rest = expanded (number + r.count) (drop (i + 1) runs) in
      at_drop_more (λ rs. told (expanded number rs) left) runs i d here
      ∙ told_later (run_list number r) rest left (rw length_run h)
      ∙ ap (λ n. told rest (left - n)) (length_run number r)

-- the segment that a walk over the runs of a timeline comes to keeps the limits
pub limited_stop : (t : Written) (place left i : ℕ) → i < length t.runs.now → left < (get_or t.runs.now i no_run).count → told (of_written t) place ≡ told (expanded (t.first + (place - left)) (drop i t.runs.now)) left → Limited (nth_of (t.first + (place - left)) (get_or t.runs.now i no_run) left)
limited_stop t place left i here h e =
    let number = t.first + (place - left) in
    (stands (of_written t) (sound_written t) place (nth_of number (get_or t.runs.now i no_run) left) (sym (e ∙ told_stop number t.runs.now i no_run here left h))).limited

-- how many segments of a run have ended by a tick
abbrev pub ended_in : ℕ → Run → ℕ
ended_in tick r = min ((tick - r.start) / r.length) r.count

split_run : (number : ℕ) (r : Run) (tick : ℕ) → 1 ≤ r.length → Split (run_list number r) tick (ended_in tick r)
split_run number r tick long = record {
  within = rw length_run (omega arith);
  before = λ i d h.
      let j : i < r.count = omega arith in
      let q = (tick - r.start) / r.length in
      rw (get_or-run number r i d j) (omega (arith, add-mul i 1 r.length, mul-le-mul_right {m = i + 1} {n = q} r.length (omega arith), div-mul-le_self (tick - r.start) r.length));
  after = λ i d h l.
      let j : i < r.count = rw length_run at l in
      let q = (tick - r.start) / r.length in
      rw (get_or-run number r i d j) (omega (arith, mul-le-mul_right {m = q} {n = i} r.length (omega arith), lt-div-mul-add {a = tick - r.start} {b = r.length} (omega arith)));
}

pub ended_run : (number : ℕ) (r : Run) (tick : ℕ) → 1 ≤ r.length → ended_in tick r ≡ ended_by (run_list number r) tick
ended_run number r tick long = split_counts (run_list number r) tick (ended_in tick r) (split_run number r tick long)

-- and of one run after another
abbrev pub ended_among : ℕ → List Run → ℕ
ended_among tick = sum_by (λ r. ended_by (run_list 0 r) tick)

pub ended_expanded : (from first : ℕ) (runs : List Run) (tick : ℕ) → fair_from from runs ≡ true → ended_among tick runs ≡ ended_by (expanded first runs) tick
ended_expanded from first [] tick fair = refl
ended_expanded from first (r ∷ rs) tick fair =
    let f = fair_parts from r rs fair in
    let p = λ (s : Segment). leb (end s) tick in
    let xs = run_list first r in
    let ys = expanded (first + r.count) rs in
    omega (
      arith,
      sum_by-cons (λ q. ended_by (run_list 0 q) tick) r rs,
      ended_run first r tick f.long,
      ended_run 0 r tick f.long,
      ended_expanded (run_end r) (first + r.count) rs tick f.rest,
      ap length (filter-append p xs ys),
      length-append (filter p xs) (filter p ys),
    )

-- each of fair runs has a length, and ends by the last tick
pub fair_at : (from : ℕ) (runs : List Run) → fair_from from runs ≡ true → (i : ℕ) (d : Run) → i < length runs → (1 ≤ (get_or runs i d).length) × (run_end (get_or runs i d) ≤ 9007199254740992)
fair_at from [] fair i d h = absurd (omega arith)
fair_at from (r ∷ rs) fair zero d h = let f = fair_parts from r rs fair in (f.long, f.within)
fair_at from (r ∷ rs) fair (suc i) d h = fair_at (run_end r) rs (fair_parts from r rs fair).rest i d (omega arith)
