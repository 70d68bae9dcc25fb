use Rattle.std.proofs.Common.{◌≡◌, ◌-◌, length, refl, sym, ap, ◌∙◌, rules, tests}
use Rattle.std.proofs.lemmas.Iterator.{YieldsList-from_range}
use Rattle.std.proofs.lemmas.Iterator.Consumers.{YieldsList-from_filter, nth_from_yields_List}
use Rattle.std.proofs.lemmas.Iterator.Adapters.{option_map_id}
use Rattle.std.specs.Option.{option_map}
use Rattle.std.specs.List.{slice_get}
use Rattle.tree.specs.Trees.{on}
use Rattle.chosen.specs.Choosing.{chosen_at, is_representation_of, representations_of}
use Rattle.chosen.proofs.choose_in.Goals as goal
use Rattle.chosen.proofs.choose_in.Goals.{After-nth}

found : (c : After-nth) → c.nth.result ≡ slice_get (on representations_of c.args.tree.now c.args.period) c.args.position
found c =
    let t = c.args.tree.now in
    let n = length t.elements.now in
    sym (option_map_id c.nth.result)
    ∙ nth_from_yields_List c.nth.result c.nth.new.self c.args.position c.nth.ensures.ran
    (YieldsList-from_filter _ (on is_representation_of t c.args.period) (YieldsList-from_range {s = c.filter.result.iter} 0 n (n - 0) (cc) refl) c.filter.ensures.closure (λ x r q k. search (rules, tests)))

pub returns-in_err-representation : goal.returns-in_err-representation
returns-in_err-representation c =
    let is = found (goal.at.returns-in_err-representation c).After-nth in
    c.from_residual.ensures ∙ ap (option_map (on chosen_at c.args.tree.now c.args.period)) (sym c.in_err-representation.was ∙ is)

pub returns : goal.returns
returns c =
    let is = found (goal.at.returns c).After-nth in
    rw c.parent.ensures (ap (option_map (on chosen_at c.args.tree.now c.args.period)) (sym c.in_ok-representation.was ∙ is))
