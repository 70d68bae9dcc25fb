-- Words that a text begins with.
use Rattle.std.proofs.Common.{◌≡◌, ℕ, ◌-◌, min, Bool, true, eqb, List, [], ◌∷◌, ◌++◌, length, take, drop, Decides, sym, refl, ap, ◌∙◌, subst, ⊎_elim, arith, eq-eqb, eqb-true}
use borrow.Author.Tests.{clash}
use Rattle.std.specs.List.{starts_with}
use Rattle.std.proofs.lemmas.Slice.Eq.{starts_is}
use Rattle.std.proofs.lemmas.List.{drop_all, take_rest}
use Rattle.std.proofs.lemmas.Bool.{and_parts, and_from, cases_lt}
use Rattle.std.proofs.lemmas.Bool.Decides.{same_from_decides, Decides-eqb}
use Rattle.template.specs.Reading.{begins}

pub begins_front : (w t : List ℕ) → begins w t ≡ true → t ≡ w ++ drop (length w) t
begins_front [] t h = refl
begins_front (x ∷ w) [] h = absurd (clash h)
begins_front (x ∷ w) (b ∷ t) h =
    let hs = and_parts (eqb b x) (begins w t) h in
    ap (λ y. y ∷ t) (eqb-true b x hs.0) ∙ ap (λ l. x ∷ l) (begins_front w t hs.1)

begins_append : (w rest : List ℕ) → begins w (w ++ rest) ≡ true
begins_append [] rest = refl
begins_append (x ∷ w) rest = and_from (eqb x x) (begins w (w ++ rest)) (eq-eqb x x refl) (begins_append w rest)

begins_decides : (w t : List ℕ) → Decides (begins w t) (t ≡ w ++ drop (length w) t)
begins_decides w t =
    (begins_front w t, λ e. subst (λ s. begins w s ≡ true) (sym e) (begins_append w (drop (length w) t)))

-- what `starts_with` answers
begins_starts : (t w : List ℕ) (r : Bool) → r ≡ starts_with eqb t w →
    r ≡ begins w t
begins_starts t w r h =
    let s = starts_is Decides-eqb t w r h in
    same_from_decides r (begins w t) (s.0, λ e. s.1 (drop (length w) t) e) (begins_decides w t)

-- the same at a place that may lie past the end
pub begins_from : (t w : List ℕ) (at from : ℕ) (r : Bool) → from ≡ min at (length t) →
    r ≡ starts_with eqb (take (length t - from) (drop from t)) w →
    r ≡ begins w (drop at t)
begins_from t w at from r e h =
    begins_starts (take (length t - from) (drop from t)) w r h
    ∙ ap (begins w) (take_rest t from ∙ ap (λ k. drop k t) e ∙ drop_min)
  where
    drop_min : drop (min at (length t)) t ≡ drop at t
    drop_min =
        ⊎_elim (λ l. ap (λ k. drop k t) (omega arith))
        (λ l. ap (λ k. drop k t) (omega arith) ∙ drop_all (length t) t (omega arith) ∙ sym (drop_all at t l))
        (cases_lt at (length t))
