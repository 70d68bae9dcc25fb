use Rattle.tables.specs.Leaving.{Filled}
use Rattle.tree.specs.Trees.{on}
use Rattle.rules.specs.Findings.{findings_below, no_finding}
use Rattle.rules.proofs.checker.check.Given as goal

abbrev pub invariant-rows : goal.invariant-rows
invariant-rows l = Filled no_finding l.fn.table (on findings_below l.tree l.row) l.table
