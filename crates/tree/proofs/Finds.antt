-- What the first row is that passes a test, and what is behind it.
use Rattle.std.proofs.Common.{◌≡◌, ℕ, suc, zero, ◌+◌, ◌-◌, ◌<◌, ◌≤◌, Bool, true, false, cond, get_or, slice_get, Decides, List, [], ◌∷◌, length, drop, Some, None, Option, MatchOption, refl, sym, ap, ◌∙◌, arith, subst, ⊎_elim}
use Rattle.std.specs.List.{find}
use Rattle.std.specs.Option.{option_map}
use Rattle.std.specs.Str.{bytes_eq}
use Rattle.std.proofs.lemmas.Bool.{cases_lt, lt-ltb, le-ltb, eqb-true, eq-eqb, and_left, and_right, and_from, and_parts, cond-true, cond-false}
use Rattle.std.proofs.lemmas.List.{at_drop_more, at_drop_all}
use Rattle.std.proofs.lemmas.Slice.Eq.{bytes_eq-Decides}
use Rattle.tables.specs.Parts.{part, is_of}
use Rattle.tables.specs.Zero.{no_element}
use Rattle.tables.specs.declared.manifest.Attribute.{Attribute}
use Rattle.tables.specs.declared.manifest.Element.{Element}
use Rattle.tree.specs.Laws.{Nowhere, Child, FirstChild}
use Rattle.tree.specs.Questions.{value_of, is_child, child_from, child_of, is_child_at, children_of, rows_from}
use Rattle.tree.proofs.Rows.{rows_here, rows_more, rows_end}

module _ (m : List ℕ) (e : ℕ) (n : List ℕ) where
  -- the value is that of the first such attribute
  pub value_finds : (rows : List Attribute) → option_map (λ a. part m a.value) (find (is_of m e n) rows) ≡ value_of m rows e n
  value_finds [] = refl
  value_finds (a ∷ rows) =
      let rest = value_finds rows in
      elim (is_of m e n a) as (λ b. option_map (λ x. part m x.value) (cond b (Some a) (find (is_of m e n) rows)) ≡ cond b (Some (part m a.value)) (value_of m rows e n)) [
        | true ↦ refl
        | false ↦ rest
      ]

module _ (p : ℕ → Bool) (n : ℕ) where
  -- the rows begin with k on, where none before it passes
  rows_behind : (k : ℕ) → ((i : ℕ) → i < k → p i ≡ false) → rows_from p n k ≡ rows_from p n 0
  rows_behind zero fails = refl
  rows_behind (suc k) fails =
      let one = rows_behind k (λ i lt. fails i (omega arith)) in
      let next : suc k ≡ k + 1 = omega arith in
      rw next (⊎_elim
      (λ lt. sym (rows_more p n k lt (sym (fails k (omega arith)))) ∙ one)
      (λ le. rows_end p n (k + 1) (omega arith) ∙ sym (rows_end p n k le) ∙ one)
      (cases_lt k n))

  -- no row from k on passes
  rows_none : (d k : ℕ) → d ≡ n - k → ((i : ℕ) → k ≤ i → i < n → p i ≡ false) → rows_from p n k ≡ []
  rows_none zero k e fails = rows_end p n k (omega arith)
  rows_none (suc d) k e fails = rows_more p n k (omega arith) (sym (fails k (omega arith) (omega arith))) ∙ rows_none d (k + 1) (omega arith) (λ i le lt. fails i (omega arith) lt)

  -- the row i is the first from k on that passes
  rows_first : (d k i : ℕ) → d ≡ i - k → k ≤ i → i < n → p i ≡ true → ((j : ℕ) → k ≤ j → j < i → p j ≡ false) → rows_from p n k ≡ i ∷ rows_from p n (i + 1)
  rows_first zero k i e le lt passes fails = let s : k ≡ i = omega arith in rw s (rows_here p n i lt (sym passes))
  rows_first (suc d) k i e le lt passes fails = rows_more p n k (omega arith) (sym (fails k (omega arith) (omega arith))) ∙ rows_first d (k + 1) i (omega arith) (omega arith) lt passes (λ j from below. fails j (omega arith) below)

  -- behind the last row it is the same from where on
  pub rows_capped : (k l : ℕ) → k ≤ l → (k < l → n ≤ k) → rows_from p n l ≡ rows_from p n k
  rows_capped k l le far =
      ⊎_elim
      (λ lt. rows_end p n l (omega (arith, far lt)) ∙ sym (rows_end p n k (far lt)))
      (λ more. let same : l ≡ k = omega (arith, le, more) in ap (rows_from p n) same)
      (cases_lt k l)

  -- what a search from k on finds is the first of the rows that are left
  pub rows_found : (k : ℕ) (found : Option ℕ) → MatchOption found ((i : ℕ) → k ≤ i → i < n → p i ≡ false) (λ i. (k ≤ i) × (i < n) × (p i ≡ true) × ((j : ℕ) → k ≤ j → j < i → p j ≡ false)) → MatchOption found (rows_from p n k ≡ []) (λ i. rows_from p n k ≡ i ∷ rows_from p n (i + 1))
  rows_found k None fails = rows_none (n - k) k refl fails
  rows_found k (Some i) first = rows_first (i - k) k i refl first.0 first.1 first.2 first.3

module _ (m : List ℕ) (es : List Element) (e : ℕ) (n : List ℕ) where
  abbrev element : ℕ → Element
  element k = get_or es k no_element

  before : (k : ℕ) → k ≤ e → is_child_at m es e n k ≡ false
  before k le = and_right _ _ (and_left _ _ (le-ltb e k le))

  -- a walk over the children may begin behind e, or further ahead
  pub children_behind : (k : ℕ) → k ≤ e + 1 → rows_from (is_child_at m es e n) (length es) k ≡ children_of m es e n
  children_behind k le = rows_behind (is_child_at m es e n) (length es) k (λ i lt. before i (omega (arith, lt, le)))

  -- behind e, a row is that of a child where its element is one
  module _ (k : ℕ) (lt : k < length es) (behind : e < k) where
    here : (b : Bool) → is_child m e n (element k) ≡ b → is_child_at m es e n k ≡ b
    here b is = let one = lt-ltb k (length es) lt in let two = lt-ltb e k behind in rw (one, two) is

    child_here : is_child m e n (element k) ≡ true → child_from m e n k (drop k es) ≡ Some k
    child_here y = at_drop_more (λ ys. child_from m e n k ys) es k no_element lt ∙ cond-true _ _ _ y

    child_later : is_child m e n (element k) ≡ false → child_from m e n k (drop k es) ≡ child_from m e n (k + 1) (drop (k + 1) es)
    child_later f = at_drop_more (λ ys. child_from m e n k ys) es k no_element lt ∙ cond-false _ _ _ f

  child_none : (k : ℕ) → length es ≤ k → child_from m e n k (drop k es) ≡ None
  child_none k le = at_drop_all (λ ys. child_from m e n k ys) es k le

  -- the first child from k on is the first of the rows from k on
  heads : (d k : ℕ) → d ≡ length es - k → e < k → slice_get (rows_from (is_child_at m es e n) (length es) k) 0 ≡ child_from m e n k (drop k es)
  heads zero k is behind = ap (λ l. slice_get l 0) (rows_end (is_child_at m es e n) (length es) k (omega (arith, is))) ∙ sym (child_none k (omega (arith, is)))
  heads (suc d) k is behind = go (is_child m e n (element k)) refl (heads d (k + 1) (omega (arith, is)) (omega (arith, behind)))
    where
      lt : k < length es
      lt = omega (arith, is)

      go : (b : Bool) → is_child m e n (element k) ≡ b → slice_get (rows_from (is_child_at m es e n) (length es) (k + 1)) 0 ≡ child_from m e n (k + 1) (drop (k + 1) es) → slice_get (rows_from (is_child_at m es e n) (length es) k) 0 ≡ child_from m e n k (drop k es)
      go true y later = ap (λ l. slice_get l 0) (rows_here (is_child_at m es e n) (length es) k lt (sym (here k lt behind true y))) ∙ sym (child_here k lt behind y)
      go false f later = ap (λ l. slice_get l 0) (rows_more (is_child_at m es e n) (length es) k lt (sym (here k lt behind false f))) ∙ later ∙ sym (child_later k lt behind f)

  pub child_heads : slice_get (children_of m es e n) 0 ≡ child_of m es e n
  child_heads = ap (λ l. slice_get l 0) (sym (children_behind (e + 1) (omega arith))) ∙ heads (length es - (e + 1)) (e + 1) refl (omega arith)

  -- the first child is the first row that says so
  told : (d k : ℕ) → d ≡ length es - k → e < k → Nowhere (Child m e n es) (e + 1) k → FirstChild m e n es (child_from m e n k (drop k es))
  told zero k is behind clear = subst (FirstChild m e n es) (sym (child_none k (omega (arith, is)))) (λ i from below. clear i from (omega (arith, is, below)))
  told (suc d) k is behind clear = go (is_child m e n (element k)) refl (told d (k + 1) (omega (arith, is)) (omega (arith, behind)))
    where
      lt : k < length es
      lt = omega (arith, is)

      same : Decides (bytes_eq (part m (element k).name) n) (part m (element k).name ≡ n)
      same = bytes_eq-Decides (part m (element k).name) n

      go : (b : Bool) → is_child m e n (element k) ≡ b → (Nowhere (Child m e n es) (e + 1) (k + 1) → FirstChild m e n es (child_from m e n (k + 1) (drop (k + 1) es))) → FirstChild m e n es (child_from m e n k (drop k es))
      go true y later =
          let parts = and_parts _ _ y in
          subst (FirstChild m e n es) (sym (child_here k lt behind y)) (record { from = omega (arith, behind); below = lt; here = (eqb-true _ _ parts.0, same.0 parts.1); before = clear })
      go false f later =
          let no : Child m e n es k → ⊥ = λ c. let yes = and_from _ _ (eq-eqb _ _ c.0) (same.1 c.1) in let not : true ≡ false = sym yes ∙ f in cc in
          subst (FirstChild m e n es) (sym (child_later k lt behind f))
          (later (λ i from below c. ⊎_elim (λ less. clear i from less c) (λ more. let at : i ≡ k = omega (arith, below, more) in no (subst (Child m e n es) at c)) (cases_lt i k)))

  pub child_told : FirstChild m e n es (child_of m es e n)
  child_told = told (length es - (e + 1)) (e + 1) refl (omega arith) (λ i from below c. absurd (omega (arith, from, below)))
