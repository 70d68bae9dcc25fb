use Rattle.std.proofs.Common.{◌≡◌, ◌++◌, drop}
use Rattle.tables.specs.Leaving.{Kept}
use Rattle.tables.specs.Rows.{held}
use Rattle.tree.specs.Trees.{on}
use Rattle.rules.specs.Broken.{broken}
use Rattle.rules.specs.Findings.{failing}
use Rattle.rules.proofs.checker.list_at.Given as goal

abbrev pub invariant-rules : goal.invariant-rules
invariant-rules l = record {
  whole : held l.initial.table ++ failing (on broken l.tree l.row) l.row l.rules ≡ held l.table ++ failing (on broken l.tree l.row) l.row (drop l.rule-index l.rules);
  kept : Kept l.initial.table l.table;
}
