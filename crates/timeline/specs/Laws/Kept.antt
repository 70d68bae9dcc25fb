-- A filter whose test turns once along the list keeps one end of it.
use Rattle.std.specs.Prelude.{◌≡◌, ℕ, zero, suc, ◌<◌, ◌≤◌, Bool, true, false, not, List, [], ◌∷◌, length, take, drop, filter, slice_index_or, refl}
use Rattle.std.proofs.Common.{ap, arith, inl, inr}
use Rattle.std.proofs.lemmas.List.Filters.{length-filter_both}
use Rattle.std.proofs.lemmas.Bool.{cases_Bool, both_ways}

module _ {X : Type 0} (p : X → Bool) where
  pub kept_all : (xs : List X) → ((i : ℕ) (d : X) → i < length xs → p (slice_index_or xs i d) ≡ true) → filter p xs ≡ xs
  kept_all [] all = refl
  kept_all (x ∷ xs) all = rw (all 0 x (omega arith)) (ap (λ ys. x ∷ ys) (kept_all xs (λ i d h. all (suc i) d (omega arith))))

  pub kept_nothing : (xs : List X) → ((i : ℕ) (d : X) → i < length xs → p (slice_index_or xs i d) ≡ false) → filter p xs ≡ []
  kept_nothing [] none = refl
  kept_nothing (x ∷ xs) none = rw (none 0 x (omega arith)) (kept_nothing xs (λ i d h. none (suc i) d (omega arith)))

  pub kept_back : (xs : List X) (k : ℕ) → k ≤ length xs → ((i : ℕ) (d : X) → i < k → p (slice_index_or xs i d) ≡ false) → ((i : ℕ) (d : X) → k ≤ i → i < length xs → p (slice_index_or xs i d) ≡ true) → filter p xs ≡ drop k xs
  kept_back xs zero h none all = kept_all xs (λ i d l. all i d (omega arith) l)
  kept_back [] (suc k) h none all = refl
  kept_back (x ∷ xs) (suc k) h none all =
      rw (none 0 x (omega arith))
      (kept_back xs k (omega arith) (λ i d l. none (suc i) d (omega arith)) (λ i d l m. all (suc i) d (omega arith) (omega arith)))

  pub kept_front : (xs : List X) (k : ℕ) → k ≤ length xs → ((i : ℕ) (d : X) → i < k → p (slice_index_or xs i d) ≡ true) → ((i : ℕ) (d : X) → k ≤ i → i < length xs → p (slice_index_or xs i d) ≡ false) → filter p xs ≡ take k xs
  kept_front xs zero h all none = kept_nothing xs (λ i d l. none i d (omega arith) l)
  kept_front [] (suc k) h all none = refl
  kept_front (x ∷ xs) (suc k) h all none =
      rw (all 0 x (omega arith))
      (ap (λ ys. x ∷ ys) (kept_front xs k (omega arith) (λ i d l. all (suc i) d (omega arith)) (λ i d l m. none (suc i) d (omega arith) (omega arith))))

  -- a test that does not come true again once it has failed
  abbrev pub Turns : List X → Type 0
  Turns xs = (i j : ℕ) (d : X) → i ≤ j → j < length xs → p (slice_index_or xs j d) ≡ true → p (slice_index_or xs i d) ≡ true

  pub turned : (xs : List X) (x : X) → Turns (x ∷ xs) → p x ≡ false → (i : ℕ) (d : X) → i < length xs → p (slice_index_or xs i d) ≡ false
  turned xs x turns failed i d h =
      elim (cases_Bool (p (slice_index_or xs i d))) [
        | inl passes ↦ absurd (both_ways (p x) failed (turns 0 (suc i) d (omega arith) (omega arith) passes))
        | inr fails ↦ fails
      ]

  -- it holds below the number of those that pass
  pub turn_before : (xs : List X) → Turns xs → (i : ℕ) (d : X) → i < length (filter p xs) → p (slice_index_or xs i d) ≡ true
  turn_before [] turns i d h = absurd (omega arith)
  turn_before (x ∷ xs) turns zero d h =
      elim (cases_Bool (p x)) [
        | inl passes ↦ passes
        | inr fails ↦
            let none : filter p xs ≡ [] = kept_nothing xs (turned xs x turns fails) in
            let long : 0 < length {A = X} [] = rw (fails, none) at h in
            absurd (omega arith)
      ]
  turn_before (x ∷ xs) turns (suc i) d h =
      elim (cases_Bool (p x)) [
        | inl passes ↦
            let long : suc i < suc (length (filter p xs)) = rw passes at h in
            turn_before xs (λ a b e l m. turns (suc a) (suc b) e (omega arith) (omega arith)) i d (omega arith)
        | inr fails ↦
            let none : filter p xs ≡ [] = kept_nothing xs (turned xs x turns fails) in
            let long : suc i < length {A = X} [] = rw (fails, none) at h in
            absurd (omega arith)
      ]

  -- and fails from there on
  pub turn_after : (xs : List X) → Turns xs → (i : ℕ) (d : X) → length (filter p xs) ≤ i → i < length xs → p (slice_index_or xs i d) ≡ false
  turn_after [] turns i d h l = absurd (omega arith)
  turn_after (x ∷ xs) turns zero d h l =
      elim (cases_Bool (p x)) [
        | inl passes ↦ let long : suc (length (filter p xs)) ≤ 0 = rw passes at h in absurd (omega arith)
        | inr fails ↦ fails
      ]
  turn_after (x ∷ xs) turns (suc i) d h l =
      elim (cases_Bool (p x)) [
        | inl passes ↦
            let long : suc (length (filter p xs)) ≤ suc i = rw passes at h in
            turn_after xs (λ a b e k m. turns (suc a) (suc b) e (omega arith) (omega arith)) i d (omega arith) (omega arith)
        | inr fails ↦ turned xs x turns fails i d (omega arith)
      ]

  -- and there are no more of them than elements
  pub kept_short : (xs : List X) → length (filter p xs) ≤ length xs
  kept_short xs = omega (arith, length-filter_both p (λ x. not (p x)) (λ x. refl) xs)
