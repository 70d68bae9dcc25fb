-- How a reading goes on from one byte to the next.
use Rattle.std.proofs.Common.{◌≡◌, ℕ, ◌+◌, ◌<◌, ◌≤◌, Bool, true, false, cond, List, [], ◌∷◌, length, get_or, drop, sym, refl, ap, ◌∙◌, ⊎_elim, add-zero, add_assoc, one-add}
use Rattle.std.specs.List.{prefix_len}
use Rattle.std.proofs.lemmas.List.{at_drop_more, at_drop_all, drop-drop as drops}
use Rattle.std.proofs.lemmas.Bool.{cases_lt}
use Rattle.reader.specs.Machine.{State, wrong, refused, step, ended, run, from}
use Rattle.reader.specs.declared.fault.ReadRefusal.{ReadRefusal}

module _ (m : List ℕ) (E A : ℕ) where
  -- one byte
  pub from_step : (s : State) (at : ℕ) → at < length m → from m E A s at ≡ from m E A (step m E A s at (get_or m at 0)) (at + 1)
  unfolding run
  from_step s at h = at_drop_more (run m E A s at) m at 0 h

  pub from_end : (s : State) (at : ℕ) → length m ≤ at → from m E A s at ≡ ended m E A s at
  unfolding run
  from_end s at h = at_drop_all (run m E A s at) m at h

  run_wrong : (k : ReadRefusal) (p at : ℕ) (xs : List ℕ) → run m E A (wrong k p) at xs ≡ refused k p
  unfolding run
  run_wrong k p at [] = refl
  run_wrong k p at (x ∷ xs) = run_wrong k p (at + 1) xs

  -- a state that is wrong stays so
  pub from_wrong : (k : ReadRefusal) (p at : ℕ) → from m E A (wrong k p) at ≡ refused k p
  from_wrong k p at = run_wrong k p at (drop at m)

  -- a byte after which the state is t
  pub from_to : (s t : State) (at : ℕ) → at < length m → step m E A s at (get_or m at 0) ≡ t → from m E A s at ≡ from m E A t (at + 1)
  from_to s t at lt e = from_step s at lt ∙ ap (λ x. from m E A x (at + 1)) e

  -- a byte after which the state is wrong
  pub to_wrong : (s : State) (k : ReadRefusal) (p at : ℕ) → at < length m → step m E A s at (get_or m at 0) ≡ wrong k p → from m E A s at ≡ refused k p
  to_wrong s k p at lt e = from_to s (wrong k p) at lt e ∙ from_wrong k p (at + 1)

  -- two states that agree at the next byte and at the end
  pub from_same : (s t : State) (at : ℕ) → (at < length m → step m E A s at (get_or m at 0) ≡ step m E A t at (get_or m at 0)) → ended m E A s at ≡ ended m E A t at → from m E A s at ≡ from m E A t at
  from_same s t at h e =
      ⊎_elim
      (λ lt. from_step s at lt ∙ ap (λ x. from m E A x (at + 1)) (h lt) ∙ sym (from_step t at lt))
      (λ le. from_end s at le ∙ e ∙ sym (from_end t at le))
      (cases_lt at (length m))

  -- bytes of a class that leave the state as it is
  module _ (s : State) (p : ℕ → Bool) (stays : (at b : ℕ) → p b ≡ true → step m E A s at b ≡ s) where
    run_stays : (xs : List ℕ) (at : ℕ) → run m E A s at xs ≡ run m E A s (at + prefix_len p xs) (drop (prefix_len p xs) xs)
    unfolding run
    run_stays [] at = ap (λ k. ended m E A s k) (sym (add-zero at))
    run_stays (x ∷ xs) at = go (p x) refl (run_stays xs (at + 1))
      where
        go : (t : Bool) → p x ≡ t → run m E A s (at + 1) xs ≡ run m E A s (at + 1 + prefix_len p xs) (drop (prefix_len p xs) xs) → run m E A s at (x ∷ xs) ≡ run m E A s (at + cond t (1 + prefix_len p xs) 0) (drop (cond t (1 + prefix_len p xs) 0) (x ∷ xs))
        go true e ih =
            ap (λ t. run m E A t (at + 1) xs) (stays at x e)
            ∙ ih
            ∙ ap (λ k. run m E A s k (drop (prefix_len p xs) xs)) (add_assoc at 1 (prefix_len p xs))
            ∙ ap (λ k. run m E A s (at + (1 + prefix_len p xs)) (drop k (x ∷ xs))) (sym (one-add (prefix_len p xs)))
        go false e ih = ap (λ k. run m E A s k (x ∷ xs)) (sym (add-zero at))

    pub from_stays : (at end : ℕ) → end ≡ at + prefix_len p (drop at m) → from m E A s at ≡ from m E A s end
    from_stays at end e =
        run_stays (drop at m) at
        ∙ ap (λ l. run m E A s (at + prefix_len p (drop at m)) l) (drops (prefix_len p (drop at m)) at m)
        ∙ ap (λ k. run m E A s k (drop k m)) (sym e)
