use Rattle.std.proofs.Common.{sym, ◌∙◌}
use Rattle.std.proofs.lemmas.Iterator.Consumers.{nth_from_yields_List, YieldsList-from_first}
use Rattle.std.proofs.lemmas.Iterator.Adapters.{option_map_id}
use Rattle.tree.proofs.Tree.nth_child.Goals as goal

pub returns : goal.returns
returns c = sym (option_map_id c.nth.result) ∙ nth_from_yields_List c.nth.result c.nth.new.self c.args.position c.nth.ensures.ran (YieldsList-from_first (λ x. x) (λ rows. rows) _ c.children.ensures)
