-- What is told of a place, and what the order law gives of any two places.
use Rattle.std.specs.Prelude.{◌≡◌, ℕ, zero, suc, ◌+◌, ◌-◌, ◌<◌, ◌≤◌, List, [], ◌∷◌, length, Ok, Err, slice_index_or, refl}
use Rattle.std.proofs.Common.{arith, inl, inr}
use Rattle.std.proofs.ByRecursion.{All-get_or}
use Rattle.std.proofs.lemmas.Bool.{cases_lt}
use Rattle.timeline.specs.declared.segment.Segment.{Segment}
use Rattle.timeline.specs.Refusals.{no_such_place}
use Rattle.timeline.specs.Segments.{end, told, Sound, Limited}

pub told_at : (xs : List Segment) (i : ℕ) (d : Segment) → i < length xs → told xs i ≡ Ok (slice_index_or xs i d)
told_at [] i d h = absurd (omega arith)
told_at (x ∷ xs) zero d h = refl
told_at (x ∷ xs) (suc i) d h = told_at xs i d (omega arith)

pub told_past : (xs : List Segment) (i : ℕ) → length xs ≤ i → told xs i ≡ Err no_such_place
told_past [] i h = refl
told_past (x ∷ xs) zero h = absurd (omega arith)
told_past (x ∷ xs) (suc i) h = told_past xs i (omega arith)

module _ (xs : List Segment) (ok : Sound xs) where
  pub limited_at : (i : ℕ) (d : Segment) → i < length xs → Limited (slice_index_or xs i d)
  limited_at i d h = All-get_or Limited xs i d h ok.limited

  -- the order of two places that are k apart
  apart : (k i : ℕ) (d : Segment) → i + 1 + k < length xs → end (slice_index_or xs i d) ≤ (slice_index_or xs (i + 1 + k) d).start
  apart zero i d h = let e : i + 1 + 0 ≡ i + 1 = omega arith in rw e (ok.order i d (omega arith))
  apart (suc k) i d h =
      let before = apart k i d (omega arith) in
      let long = (limited_at (i + 1 + k) d (omega arith)).long in
      let next = ok.order (i + 1 + k) d (omega arith) in
      let e : i + 1 + suc k ≡ i + 1 + k + 1 = omega arith in
      rw e (omega arith)

  pub in_order : (i j : ℕ) (d : Segment) → i < j → j < length xs → end (slice_index_or xs i d) ≤ (slice_index_or xs j d).start
  in_order i j d h k =
      let e : i + 1 + (j - (i + 1)) ≡ j = omega arith in
      rw e at (apart (j - (i + 1)) i d (omega arith))

  -- the ends rise along the list
  pub ends_rise : (i j : ℕ) (d : Segment) → i ≤ j → j < length xs → end (slice_index_or xs i d) ≤ end (slice_index_or xs j d)
  ends_rise i j d h k = elim (cases_lt i j) [ inl l ↦ omega (arith, in_order i j d l k) | inr l ↦ let e : i ≡ j = omega arith in rw e (omega arith) ]

  -- the starts rise too
  pub starts_rise : (i j : ℕ) (d : Segment) → i ≤ j → j < length xs → (slice_index_or xs i d).start ≤ (slice_index_or xs j d).start
  starts_rise i j d h k = elim (cases_lt i j) [ inl l ↦ omega (arith, in_order i j d l k) | inr l ↦ let e : i ≡ j = omega arith in rw e (omega arith) ]
