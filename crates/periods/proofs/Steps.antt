-- The steps of a walk from Period to Period.
use Rattle.std.proofs.Common.{◌≡◌, ℕ, suc, ◌+◌, ◌-◌, ◌<◌, ◌≤◌, List, [], ◌∷◌, length, get_or, drop, codes, Option, sym, ap, ◌∙◌, arith}
use Rattle.std.proofs.lemmas.List.{drop_more, length-drop}
use Rattle.std.specs.Option.{option_or}
use Rattle.tables.specs.declared.manifest.Attribute.{Attribute}
use Rattle.tables.specs.declared.manifest.Element.{Element}
use Rattle.tree.specs.Questions.{value_of, is_child_at}
use Rattle.tree.proofs.Rows.{rows_few}
use Rattle.values.specs.Duration.{duration_of}
use Rattle.values.specs.Given.{present}
use Rattle.periods.specs.Starts.{plus, periods, period_at, stated_start, stated_duration, following, start_of}
use Rattle.periods.proofs.Sizes.{following_more}

-- where something is left behind a place, its first stands there
drop_here : (xs : List ℕ) (i x : ℕ) (rest : List ℕ) → drop i xs ≡ x ∷ rest → (i < length xs) × (get_or xs i 0 ≡ x) × (drop (i + 1) xs ≡ rest)
drop_here xs i x rest e =
    let long : length xs - i ≡ suc (length rest) = sym (length-drop i xs) ∙ ap length e in
    let lt : i < length xs = omega arith in
    let more = drop_more xs i 0 lt in (lt, cc, cc)

-- where nothing is, the place lies behind all
drop-end : (xs : List ℕ) (i : ℕ) → drop i xs ≡ [] → length xs ≤ i
drop-end xs i e = let long : length xs - i ≡ 0 = sym (length-drop i xs) ∙ ap length e in omega arith

module _ (m : List ℕ) (es : List Element) (xs : List Attribute) where
  -- the rows that are left are those of the Periods from i on, and where the Period i follows
  pub record Walked (i : ℕ) (rows : List ℕ) (f : Option ℕ) : Type 0 where
    pub left : drop i (periods m es xs) ≡ rows
    pub before : f ≡ following m es xs i

  -- there are no more Periods than rows
  pub periods_few : length (periods m es xs) ≤ length es
  periods_few = omega (arith, rows_few (is_child_at m es 0 (codes "Period")) (length es) 0)

  -- the first of the rows that are left is that of the Period i
  pub here : (i k : ℕ) (rows rest : List ℕ) → drop i (periods m es xs) ≡ rows → rows ≡ k ∷ rest → (i < length (periods m es xs)) × (period_at m es xs i ≡ k) × (drop (i + 1) (periods m es xs) ≡ rest)
  here i k rows rest left e = drop_here (periods m es xs) i k rest (left ∙ e)

  -- where no rows are left, there are no more Periods
  pub past : (i : ℕ) (rows : List ℕ) → drop i (periods m es xs) ≡ rows → rows ≡ [] → length (periods m es xs) ≤ i
  past i rows left none = drop-end (periods m es xs) i (left ∙ none)

  -- where the Period of the row k starts, and where the next one does if it states no start
  pub start_here : (i k : ℕ) → period_at m es xs i ≡ k → (o f s : Option ℕ) → s ≡ present duration_of (value_of m xs k (codes "start")) → f ≡ following m es xs i → o ≡ option_or s f → o ≡ start_of m es xs i
  start_here i k at o f s stated before e =
      let is : s ≡ stated_start m es xs i = stated ∙ ap (λ row. present duration_of (value_of m xs row (codes "start"))) (sym at) in cc

  pub following_here : (i k : ℕ) → period_at m es xs i ≡ k → (s d o : Option ℕ) → s ≡ start_of m es xs i → d ≡ present duration_of (value_of m xs k (codes "duration")) → o ≡ plus s d → o ≡ following m es xs (i + 1)
  following_here i k at s d o start stated e =
      let is : d ≡ stated_duration m es xs i = stated ∙ ap (λ row. present duration_of (value_of m xs row (codes "duration"))) (sym at) in
      let more = following_more m es xs i in cc
