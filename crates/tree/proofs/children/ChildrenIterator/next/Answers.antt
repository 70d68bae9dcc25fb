use Rattle.std.proofs.Common.{◌≡◌, ℕ, ◌+◌, true, false, List, [], ◌∷◌, length, Some, MatchOption, sym, ap, ◌∙◌, arith, rules, tests}
use Rattle.std.specs.Iterator.{MakesProgress, item_count}
use Rattle.std.specs.declared.iter.Iterator.{can_next-default}
use Rattle.std.proofs.lemmas.Iterator.{first_from_Range}
use Rattle.std.proofs.lemmas.Option.{MatchOption-at_none, MatchOption-at_some}
use Rattle.tree.specs.Questions.{rows_from}
use Rattle.tree.specs.Trees.{is_child_in}
use Rattle.tree.specs.declared.children.Children.{Children}
use Rattle.tree.proofs.Finds.{rows_found, rows_capped}
use Rattle.tree.proofs.children.ChildrenIterator.next.Goals as goal
use Rattle.tree.proofs.children.ChildrenIterator.next.Goals.{After-find}

-- the row that is found is the first that was left, and none is found where none was
found : (c : After-find) →
    let p = is_child_in c.self.inside.tree c.self.inside.parent c.self.inside.name.now in
    let n = length c.self.inside.tree.elements.now in
    MatchOption c.find.result (rows_from p n (c.self.inside.last + 1) ≡ []) (λ i. rows_from p n (c.self.inside.last + 1) ≡ i ∷ rows_from p n (i + 1))
found c =
    let self = c.self.inside in
    let p = is_child_in self.tree self.parent self.name.now in
    let first = first_from_Range _ _ _ c.find.result (λ i. p i ≡ true) (λ i. p i ≡ false) c.find.ensures.ran (λ x q k. search (rules, tests)) (λ x q k. search (rules, tests)) in
    let n = length self.tree.elements.now in
    let k = c.saturating_add.result in
    let same : rows_from p n (self.last + 1) ≡ rows_from p n k = rows_capped p n k (self.last + 1) (omega (arith, c.saturating_add.ensures)) (λ lt. omega (arith, lt, c.saturating_add.ensures, c.self.told2)) in
    rw same (rows_found p n k c.find.result first)

pub returns-in_err-row-clause-steps : goal.returns-in_err-row-clause-steps
returns-in_err-row-clause-steps c =
    let none = MatchOption-at_none _ _ c.in_err-row.was (found (goal.at.returns-in_err-row-clause-steps c).After-find) in
    let empty = sym c.self.view_is ∙ none in
    rw c.from_residual.ensures (empty, empty)

-- the row that is told, and those behind it
taken : (c : After-find) (row next : ℕ) → c.find.result ≡ Some row → row + 1 ≡ next →
    let p = is_child_in c.self.inside.tree c.self.inside.parent c.self.inside.name.now in
    c.args.self.now ≡ row ∷ rows_from p (length c.self.inside.tree.elements.now) next
taken c row next was behind =
    let p = is_child_in c.self.inside.tree c.self.inside.parent c.self.inside.name.now in
    sym c.self.view_is ∙ MatchOption-at_some _ _ row was (found c) ∙ ap (λ k. row ∷ rows_from p (length c.self.inside.tree.elements.now) k) behind

-- one row is told, and fewer are left
fewer : {rows rest : List ℕ} {row : ℕ} → rows ≡ row ∷ rest → MakesProgress (can_next-default Children ℕ) (item_count (λ l. l)) rows (Some row) rest
fewer told =
    let longer = ap length told in
    record { on = λ h. (tt, tt, omega arith); keeps = tt; rests = λ h. tt }

pub returns-clause-steps : goal.returns-clause-steps
returns-clause-steps c = taken (goal.at.returns-clause-steps c).After-find c.in_ok-row.row _ c.in_ok-row.was (omega arith)

pub returns-clause-goes : goal.returns-clause-goes
returns-clause-goes c = fewer (taken (goal.at.returns-clause-goes c).After-find c.in_ok-row.row _ c.in_ok-row.was (omega arith))
