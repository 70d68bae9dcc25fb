-- Each digit is read behind those before it.
use Rattle.std.proofs.Common.{◌≡◌, ℕ, ◌+◌, ◌*◌, ◌-◌, ◌≤◌, min, true, List, [], ◌∷◌, Iter, sym, ap, ◌∙◌, arith, rules}
use Rattle.std.specs.Iterator.{Yields}
use Rattle.std.proofs.iter.Yields.{fronts}
use Rattle.std.proofs.lemmas.Fn.{serves_by, slice_gives, fold_over}
use denote.Ref.{Bor}
use Rattle.values.specs.Whole.{digits, decimal}
use Rattle.values.proofs.Numbers.{digits_head, decimal_push}
use Rattle.values.proofs.capped.Goals as goal

digits_left : (xs : List (Bor ℕ)) (s t : Iter ℕ) → digits s.rest.now ≡ true → Yields fronts s xs t → digits t.rest.now ≡ true
digits_left [] s t h y = ap (λ i. digits i.rest.now) (sym y) ∙ h
digits_left (x ∷ xs) s t h (j, k, y) = digits_left xs j t (digits_head x.now j.rest.now (ap digits (sym k) ∙ h)).2 y

pub fold-requires-clause-callable : goal.fold-requires-clause-callable
fold-requires-clause-callable c =
    serves_by _ (λ _ q. (q.0.0.now ≡ c.args.most) × (q.1 ≤ c.args.most)) (λ xs q x v k r. search rules) _ _ _ _ (search rules)
    (λ xs t q x u y s k. let d = digits_head x.now u.rest.now (ap digits (sym s) ∙ digits_left xs c.iter.result t (search rules) y) in search rules)

pub returns : goal.returns
returns c =
    fold_over fronts (λ y. y.now) _ (λ ys a. a ≡ min (decimal ys) c.args.most) _
    (λ ys a x b f' j k. let e : b ≡ min (a * 10 + (x.now - 48)) c.args.most = search rules in (omega (arith, decimal_push ys x.now), search rules))
    _ _ _ _ (slice_gives c.iter.result) (omega arith) c.fold.ensures.ran
    ∙ ap (λ l. min (decimal l) c.args.most) c.iter.ensures.rest
