-- What is found, with the length of its text.
use Rattle.std.proofs.Common.{◌≡◌, ℕ, List, length, Some, None, Option, sym, refl, ap, ◌∙◌, arith}
use Rattle.std.specs.Option.{option_or}
use Rattle.template.specs.Reading.{measured}

-- nothing is not something
pub no_some : {A : Type 0} (x : A) {B : Type 0} → ◌≡◌ {A = Option A} None (Some x) → B
no_some x e = absurd (let z : ◌≡◌ {A = ℕ} 0 1 = cc in omega arith)

module _ {A : Type 0} (text : A → List ℕ) where
  pub measured_some : (o : Option A) (x : A) (n : ℕ) → Some (x, n) ≡ measured text o → (o ≡ Some x) × (n ≡ length (text x))
  measured_some None x n h = no_some (x, n) (sym h)
  measured_some (Some y) x n h =
      let p : ◌≡◌ {A = A × ℕ} (x, n) (y, length (text y)) = cc in
      let e : x ≡ y = ap (λ q. q.0) p in
      (ap (λ z. Some z) (sym e), ap (λ q. q.1) p ∙ ap (λ z. length (text z)) (sym e))

  pub measured_none : (o : Option A) → None ≡ measured text o → o ≡ None
  measured_none None h = refl
  measured_none (Some y) h = no_some (y, length (text y)) h

  pub measured_or : (o q : Option A) → measured text (option_or o q) ≡ option_or (measured text o) (measured text q)
  measured_or None q = refl
  measured_or (Some x) q = refl
