-- The steps of a walk over the rows that pass a test.
use Rattle.std.proofs.Common.{◌≡◌, ℕ, suc, ◌+◌, ◌-◌, ◌<◌, ◌≤◌, Bool, true, false, cond, not, [], ◌∷◌, length, filter, refl, ap, ◌∙◌, arith}
use Rattle.std.proofs.lemmas.Bool.{cond-true, cond-false}
use Rattle.std.proofs.lemmas.List.Filters.{length-filter_both}
use Rattle.std.proofs.lemmas.List.FromFn.{length-range_with_len}
use Rattle.std.specs.List.{range_with_len}
use Rattle.tree.specs.Questions.{rows_from}

module _ (p : ℕ → Bool) (n k : ℕ) where
  step : k < n → rows_from p n k ≡ cond (p k) (k ∷ rows_from p n (k + 1)) (rows_from p n (k + 1))
  step h = let e : n - k ≡ suc (n - (k + 1)) = omega arith in ap (λ i. filter p (range_with_len k i)) e

  -- the row k passes, and is the first of them
  pub rows_here : k < n → true ≡ p k → rows_from p n k ≡ k ∷ rows_from p n (k + 1)
  rows_here h t = step h ∙ cond-true (p k) (k ∷ rows_from p n (k + 1)) (rows_from p n (k + 1)) (cc)

  -- it does not, and they are all behind it
  pub rows_more : k < n → false ≡ p k → rows_from p n k ≡ rows_from p n (k + 1)
  rows_more h f = step h ∙ cond-false (p k) (k ∷ rows_from p n (k + 1)) (rows_from p n (k + 1)) (cc)

  -- there are none behind the last row
  pub rows_end : n ≤ k → rows_from p n k ≡ []
  rows_end h = let e : n - k ≡ 0 = omega arith in ap (λ i. filter p (range_with_len k i)) e

  -- they are no more than the rows from k on
  pub rows_few : length (rows_from p n k) ≤ n - k
  rows_few =
      let rows = range_with_len k (n - k) in
      omega (arith, length-filter_both p (λ x. not (p x)) (λ _. refl) rows, length-range_with_len k (n - k))
