use Rattle.std.proofs.Common.{◌≡◌, ◌≤◌, Some, arith, rules}
use Rattle.tree.specs.Trees.{on}
use Rattle.periods.specs.Starts.{length_of}
use Rattle.periods.proofs.Ends.{length_fits}
use Rattle.periods.proofs.length_of.Goals as goal
use Rattle.periods.proofs.length_of.Goals.{In_ok-ms}

short : (c : In_ok-ms) → c.in_ok-ms.ms ≤ 100000000000
short c =
    let t = c.args.tree.now in
    let is : Some c.in_ok-ms.ms ≡ on length_of t c.args.position = search rules in
    length_fits t.manifest.now t.elements.now t.attributes.now c.args.position c.in_ok-ms.ms is

pub overflow_cast-result : goal.overflow_cast-result
overflow_cast-result c = omega (arith, short c)

pub returns-clause-small : goal.returns-clause-small
returns-clause-small c = short c
