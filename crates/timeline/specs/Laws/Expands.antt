-- The list that fair runs write out is within the limits and in order.
use Rattle.std.specs.Prelude.{◌≡◌, ℕ, ◌+◌, ◌-◌, ◌*◌, ◌^◌, ◌<◌, ◌≤◌, true, List, [], ◌∷◌, ◌++◌, length, nat_lt, slice_index_or, refl}
use Rattle.std.proofs.Common.{◌∙◌, inl, inr, arith, add-mul, mul-le-mul_right}
use Rattle.std.specs.List.{AllByRecursion}
use Rattle.std.proofs.ByRecursion.{All-append, All-from_get_or}
use Rattle.std.proofs.lemmas.List.{length-append, get_or_append_left, get_or-append_right}
use Rattle.std.proofs.lemmas.List.FromFn.{length-map-range_with_len, get_or-map-range_with_len}
use Rattle.std.proofs.lemmas.Bool.{and_parts, or_parts, not-true, leb-true, ltb-false, cases_lt}
use Rattle.timeline.specs.declared.run.Run.{Run}
use Rattle.timeline.specs.declared.segment.Segment.{Segment}
use Rattle.timeline.specs.Segments.{end, blank, Sound, Limited}
use Rattle.timeline.specs.Runs.{nth_of, run_end, run_list, expanded, many, fair_from, fair_runs}

pub length_run : (number : ℕ) (r : Run) → length (run_list number r) ≡ r.count
length_run number r = length-map-range_with_len (nth_of number r) 0 r.count

pub get_or-run : (number : ℕ) (r : Run) (i : ℕ) (d : Segment) → i < r.count → slice_index_or (run_list number r) i d ≡ nth_of number r i
get_or-run number r i d h = get_or-map-range_with_len (nth_of number r) 0 r.count i i d h (omega arith)

pub length-expanded : (first : ℕ) (runs : List Run) → length (expanded first runs) ≡ many runs
length-expanded first [] = refl
length-expanded first (r ∷ rs) =
    length-append (run_list first r) (expanded (first + r.count) rs) ∙ omega (arith, length_run first r, length-expanded (first + r.count) rs)

-- what the rules say of the first run, and of those after it
pub record Fair (from : ℕ) (r : Run) (rs : List Run) : Type 0 where
  pub some : 1 ≤ r.count
  pub long : 1 ≤ r.length
  pub later : from ≤ r.start
  pub within : run_end r ≤ 9007199254740992
  pub rest : fair_from (run_end r) rs ≡ true

pub fair_parts : (from : ℕ) (r : Run) (rs : List Run) → fair_from from (r ∷ rs) ≡ true → Fair from r rs
fair_parts from r rs fair =
    let a = and_parts _ _ fair in
    let b = and_parts _ _ a.0 in
    let c = and_parts _ _ b.1 in
    let d = and_parts _ _ c.1 in
    record { some = leb-true _ _ b.0; long = leb-true _ _ c.0; later = leb-true _ _ d.0; within = leb-true _ _ d.1; rest = a.1 }

-- a segment of a run lies within the run
pub inside : (r : Run) (i : ℕ) → i < r.count → r.start + i * r.length + r.length ≤ run_end r
inside r i h = omega (arith, add-mul i 1 r.length, mul-le-mul_right {m = i + 1} {n = r.count} r.length (omega arith))

-- the segments of one run
module _ (number : ℕ) (r : Run) where
  pub limited_run : 1 ≤ r.length → number + r.count ≤ 4294967296 → run_end r ≤ 9007199254740992 → AllByRecursion Limited (run_list number r)
  limited_run long numbers within =
      All-from_get_or Limited (run_list number r) blank (λ i h.
      let k : i < r.count = rw length_run at h in
      rw (get_or-run number r i) record { number = omega arith; long = long; within = omega (arith, inside r i k) })

  pub ordered_run : (i : ℕ) (d : Segment) → i + 1 < r.count → end (slice_index_or (run_list number r) i d) ≤ (slice_index_or (run_list number r) (i + 1) d).start
  ordered_run i d h =
      let j : i < r.count = omega arith in
      rw (get_or-run number r i d j, get_or-run number r (i + 1) d h) (omega (arith, add-mul i 1 r.length))

limited_expanded : (from first : ℕ) (runs : List Run) → fair_from from runs ≡ true → first + many runs ≤ 4294967296 → AllByRecursion Limited (expanded first runs)
limited_expanded from first [] fair numbers = tt
limited_expanded from first (r ∷ rs) fair numbers =
    let f = fair_parts from r rs fair in
    All-append Limited (run_list first r) (expanded (first + r.count) rs)
    (limited_run first r f.long (omega arith) f.within)
    (limited_expanded (run_end r) (first + r.count) rs f.rest (omega arith))

-- the first segment does not start before the tick that the runs go on from
starts_late : (from first : ℕ) (runs : List Run) → fair_from from runs ≡ true → (d : Segment) → 0 < length (expanded first runs) → from ≤ (slice_index_or (expanded first runs) 0 d).start
starts_late from first [] fair d h = absurd (omega arith)
starts_late from first (r ∷ rs) fair d h =
    let f = fair_parts from r rs fair in
    let some : 0 < r.count = omega (arith, f.some) in
    let k : 0 < length (run_list first r) = rw length_run some in
    rw (get_or_append_left (run_list first r) (expanded (first + r.count) rs) d 0 k, get_or-run first r 0 d some) (omega (arith, f.later))

ordered_expanded : (from first : ℕ) (runs : List Run) → fair_from from runs ≡ true → (i : ℕ) (d : Segment) → i + 1 < length (expanded first runs) → end (slice_index_or (expanded first runs) i d) ≤ (slice_index_or (expanded first runs) (i + 1) d).start
ordered_expanded from first [] fair i d h = absurd (omega arith)
ordered_expanded from first (r ∷ rs) fair i d h =
    let f = fair_parts from r rs fair in
    let xs = run_list first r in
    let ys = expanded (first + r.count) rs in
    let lx : length xs ≡ r.count = length_run first r in
    let both : length (xs ++ ys) ≡ length xs + length ys = length-append xs ys in
    elim (cases_lt i r.count) [
      | inl here ↦
          let k : i < length xs = omega arith in
          elim (cases_lt (i + 1) r.count) [
            | inl next ↦
                let l : i + 1 < length xs = omega arith in
                rw (get_or_append_left xs ys d i k, get_or_append_left xs ys d (i + 1) l) (ordered_run first r i d next)
            | inr last ↦
                let z : i + 1 - r.count ≡ 0 = omega arith in
                let late = starts_late (run_end r) (first + r.count) rs f.rest d (omega arith) in
                rw (get_or_append_left xs ys d i k, get_or-append_right xs ys r.count (i + 1) d lx last, z, get_or-run first r i d here)
                (omega (arith, inside r i here))
          ]
      | inr past ↦
          let e : i + 1 - r.count ≡ i - r.count + 1 = omega arith in
          rw (get_or-append_right xs ys r.count i d lx past, get_or-append_right xs ys r.count (i + 1) d lx (omega arith), e)
          (ordered_expanded (run_end r) (first + r.count) rs f.rest (i - r.count) d (omega arith))
    ]

below : (n : ℕ) → n ≤ 2147483647 → n < 2 ^ 31
below n h = omega arith

-- fair runs keep the limits and the order
pub sound_expanded : (first : ℕ) (runs : List Run) → fair_runs first runs ≡ true → Sound (expanded first runs)
sound_expanded first runs fair =
    let a = and_parts _ _ fair in
    let b = or_parts (nat_lt 2147483647 (many runs)) (nat_lt 4294967296 (first + many runs)) (not-true _ a.1) in
    record {
      few = rw length-expanded (below (many runs) (ltb-false 2147483647 _ b.0));
      limited = limited_expanded 0 first runs a.0 (ltb-false 4294967296 _ b.1);
      order = ordered_expanded 0 first runs a.0;
    }
