-- What is opened where reading accepts, from what resolve answers and leaves.
use Rattle.std.proofs.Common.{◌≡◌, ℕ, List, Ok, Err, Result, sym, ap, ◌∙◌, arith}
use Rattle.reader.specs.Machine.{Outcome, accepted, refused}
use Rattle.reader.specs.Outcomes.{answer, elements_of, attributes_of}
use Rattle.reader.specs.declared.fault.ReadFault.{ReadFault}
use Rattle.resolve.specs.Outcome.{outcome, runs_left}
use Rattle.resolve.specs.Values.{Values}
use Rattle.resolve.specs.declared.fault.ResolveFault.{ResolveFault}
use Rattle.tables.specs.declared.manifest.Attribute.{Attribute}
use Rattle.tables.specs.declared.manifest.Element.{Element}
use Rattle.timeline.specs.declared.run.Run.{Run}
use Rattle.player.specs.Opening.{resolved, opened_by, runs_by}

alike : {X : Type 0} (f : List ℕ → List Element → List Attribute → ℕ → X) {m m' : List ℕ} {es es' : List Element} {xs xs' : List Attribute} {n n' : ℕ} → m ≡ m' → es ≡ es' → xs ≡ xs' → n ≡ n' → f m es xs n ≡ f m' es' xs' n'
alike f o p q r = λ i. f (o i) (p i) (q i) (r i)

never : (e : ReadFault) (u : Unit {0}) → ◌≡◌ {A = Result (Unit {0}) ReadFault} (Ok u) (Err e) → ⊥
never e u h = let z : ◌≡◌ {A = ℕ} 0 1 = cc in omega arith

-- the rows that were read, the number of rows for runs, and what resolve answers and leaves
module _ (m m' : List ℕ) (R R' i j : ℕ) (es : List Element) (xs : List Attribute) (same : m' ≡ m) (rows : R' ≡ R) (r : Result Values ResolveFault) (runs : List Run) where
  pub opens : (u : Unit {0}) (o : Outcome) → Ok u ≡ answer o → es ≡ elements_of o → xs ≡ attributes_of o → r ≡ outcome m' es xs i j R' → runs ≡ runs_left m' es xs i j R' → (opened_by m R i j o ≡ resolved r) × (runs ≡ runs_by m R i j o)
  opens u (accepted es' xs') read p q is left = (ap resolved (sym (is ∙ alike (λ k a b n. outcome k a b i j n) same p q rows)), left ∙ alike (λ k a b n. runs_left k a b i j n) same p q rows)
  opens u (refused k b) read p q is left = absurd (never record { refusal = k; byte = b } u read)
