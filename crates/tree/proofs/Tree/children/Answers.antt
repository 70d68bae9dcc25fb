use Rattle.std.proofs.Common.{arith}
use Rattle.tree.proofs.Finds.{children_behind}
use Rattle.tree.proofs.Tree.children.Goals as goal

pub returns : goal.returns
returns c =
    let t = c.args.self.now in
    children_behind t.manifest.now t.elements.now c.args.row c.args.name.now _ (omega arith)
