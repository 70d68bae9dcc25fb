use Rattle.std.proofs.Common.{rules, tests}
use Rattle.std.proofs.lemmas.Iterator.{YieldsList-from_slice}
use Rattle.std.proofs.lemmas.Iterator.Search.{find_from_yields_List}
use Rattle.tables.specs.Parts.{is_of}
use Rattle.tree.proofs.Finds.{value_finds}
use Rattle.tree.proofs.Tree.attribute.Goals as goal

pub returns-clause-value : goal.returns-clause-value
returns-clause-value c =
    let t = c.args.self.now in
    let m = t.manifest.now in
    let e = c.args.row in
    let n = c.args.name.now in
    let found = find_from_yields_List (is_of m e n) _ _ c.find.result c.find.ensures.ran (YieldsList-from_slice t.attributes.now c.iter.ensures.rest) (λ x b q k. search (rules, tests)) in
    let value = value_finds m e n t.attributes.now in
    let is = rw (← found) at value in
    search (rules, is)
