use Rattle.std.proofs.Common.{◌≡◌, ◌∙◌, ℕ, slice_get, List, Some, None, Option, sym, ap, subst}
use Rattle.std.specs.Iterator.{YieldsFirst}
use Rattle.tree.specs.Laws.{FirstChild}
use Rattle.tree.specs.Trees.{child_in}
use Rattle.tree.proofs.Finds.{child_heads, child_told}
use Rattle.tree.proofs.Tree.child.Goals as goal
use Rattle.tree.proofs.Tree.child.Goals.{After-next}

-- what comes first is the head of the list
head : (o : Option ℕ) (xs ys : List ℕ) → YieldsFirst (λ rows. rows) xs o ys → o ≡ slice_get xs 0
head None xs ys h = ap (λ l. slice_get l 0) (sym h.0)
head (Some x) xs ys h = ap (λ l. slice_get l 0) (sym h)

is : (c : After-next) → c.next.result ≡ child_in c.args.self.now c.args.row c.args.name.now
is c =
    let t = c.args.self.now in
    head c.next.result c.children.result c.next.new.self c.next.ensures.steps
    ∙ ap (λ l. slice_get l 0) c.children.ensures
    ∙ child_heads t.manifest.now t.elements.now c.args.row c.args.name.now

pub returns-clause-row : goal.returns-clause-row
returns-clause-row c = is (goal.at.returns-clause-row c).After-next

pub returns-clause-first : goal.returns-clause-first
returns-clause-first c =
    let t = c.args.self.now in
    subst (FirstChild t.manifest.now c.args.row c.args.name.now t.elements.now) (sym (is (goal.at.returns-clause-first c).After-next)) (child_told t.manifest.now t.elements.now c.args.row c.args.name.now)
