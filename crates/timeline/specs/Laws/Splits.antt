-- Where a tick splits a list in order: the place that the counts name.
use Rattle.std.specs.Prelude.{◌≡◌, ℕ, ◌<◌, ◌≤◌, true, List, length, nat_le, nat_lt, slice_index_or}
use Rattle.std.proofs.Common.{sym, ap, subst, ◌∙◌, arith}
use Rattle.std.proofs.lemmas.List.{length-take-le}
use Rattle.std.proofs.lemmas.Bool.{lt-ltb, le-leb, lt-leb, ltb-true, ltb-false, leb-true, leb-false}
use Rattle.timeline.specs.declared.segment.Segment.{Segment}
use Rattle.timeline.specs.Segments.{end, Sound, ended_by, begun_by}
use Rattle.timeline.specs.Laws.Kept.{kept_front, turn_before, turn_after, kept_short}
use Rattle.timeline.specs.Laws.Tellings.{ends_rise, starts_rise}

-- the segments before place k have ended by the tick, and those from k on have not
pub record Split (xs : List Segment) (tick k : ℕ) : Type 0 where
  pub within : k ≤ length xs
  pub before : (i : ℕ) (d : Segment) → i < k → end (slice_index_or xs i d) ≤ tick
  pub after : (i : ℕ) (d : Segment) → k ≤ i → i < length xs → tick < end (slice_index_or xs i d)

-- the segments before place k start before the tick, and those from k on do not
pub record Begun (xs : List Segment) (tick k : ℕ) : Type 0 where
  pub within : k ≤ length xs
  pub before : (i : ℕ) (d : Segment) → i < k → (slice_index_or xs i d).start < tick
  pub after : (i : ℕ) (d : Segment) → k ≤ i → i < length xs → tick ≤ (slice_index_or xs i d).start

pub split_counts : (xs : List Segment) (tick k : ℕ) → Split xs tick k → k ≡ ended_by xs tick
split_counts xs tick k split =
    sym (ap length (kept_front (λ s. nat_le (end s) tick) xs k split.within
    (λ i d h. le-leb (end (slice_index_or xs i d)) tick (split.before i d h))
    (λ i d h l. lt-leb (end (slice_index_or xs i d)) tick (split.after i d h l))) ∙ length-take-le k xs split.within)

module _ (xs : List Segment) (ok : Sound xs) (tick k : ℕ) where
  pub counts_split : k ≡ ended_by xs tick → Split xs tick k
  counts_split e =
      let turns = λ (i j : ℕ) (d : Segment) (h : i ≤ j) (l : j < length xs) (t : nat_le (end (slice_index_or xs j d)) tick ≡ true).
      le-leb (end (slice_index_or xs i d)) tick (omega (arith, ends_rise xs ok i j d h l, leb-true (end (slice_index_or xs j d)) tick t)) in
      let p = λ (s : Segment). nat_le (end s) tick in
      subst (Split xs tick) (sym e) record {
        within = kept_short p xs;
        before = λ i d h. leb-true (end (slice_index_or xs i d)) tick (turn_before p xs turns i d h);
        after = λ i d h l. leb-false (end (slice_index_or xs i d)) tick (turn_after p xs turns i d h l);
      }

  pub counts_begun : k ≡ begun_by xs tick → Begun xs tick k
  counts_begun e =
      let turns = λ (i j : ℕ) (d : Segment) (h : i ≤ j) (l : j < length xs) (t : nat_lt (slice_index_or xs j d).start tick ≡ true).
      lt-ltb (slice_index_or xs i d).start tick (omega (arith, starts_rise xs ok i j d h l, ltb-true (slice_index_or xs j d).start tick t)) in
      let p = λ (s : Segment). nat_lt s.start tick in
      subst (Begun xs tick) (sym e) record {
        within = kept_short p xs;
        before = λ i d h. ltb-true (slice_index_or xs i d).start tick (turn_before p xs turns i d h);
        after = λ i d h l. ltb-false (slice_index_or xs i d).start tick (turn_after p xs turns i d h l);
      }

pub ended_within : (xs : List Segment) (tick k : ℕ) → k ≡ ended_by xs tick → k ≤ length xs
ended_within xs tick k e = rw e (kept_short (λ s. nat_le (end s) tick) xs)
