-- Filters after one another, and over a map.
use Rattle.std.proofs.Common.{◌≡◌, Bool, true, false, cond, ◌&&◌, List, [], ◌∷◌, map, filter, refl, ap, ◌∙◌}
use Rattle.std.specs.List.{AllByRecursion}

module _ {X : Type 0} where
  cond_map : {Y : Type 0} (f : X → Y) (b : Bool) (x : X) (xs : List X) → cond b (f x ∷ map f xs) (map f xs) ≡ map f (cond b (x ∷ xs) xs)
  cond_map f true x xs = refl
  cond_map f false x xs = refl

  pub kept_map : {Y : Type 0} (p : Y → Bool) (f : X → Y) (xs : List X) → filter p (map f xs) ≡ map f (filter (λ x. p (f x)) xs)
  kept_map p f [] = refl
  kept_map p f (x ∷ xs) = ap (λ ys. cond (p (f x)) (f x ∷ ys) ys) (kept_map p f xs) ∙ cond_map f (p (f x)) x (filter (λ x. p (f x)) xs)

  cond-kept : (p : X → Bool) (b : Bool) (x : X) (xs : List X) → filter p (cond b (x ∷ xs) xs) ≡ cond (b && p x) (x ∷ filter p xs) (filter p xs)
  cond-kept p true x xs = refl
  cond-kept p false x xs = refl

  pub kept_kept : (p q : X → Bool) (xs : List X) → filter p (filter q xs) ≡ filter (λ x. q x && p x) xs
  kept_kept p q [] = refl
  kept_kept p q (x ∷ xs) =
      cond-kept p (q x) x (filter q xs) ∙ ap (λ ys. cond (q x && p x) (x ∷ ys) ys) (kept_kept p q xs)

  pub kept_same : (P : X → Type 0) (p q : X → Bool) → ((x : X) → P x → p x ≡ q x) → (xs : List X) → AllByRecursion P xs → filter p xs ≡ filter q xs
  kept_same P p q same [] all = refl
  kept_same P p q same (x ∷ xs) all = rw (same x all.0, kept_same P p q same xs all.1)
