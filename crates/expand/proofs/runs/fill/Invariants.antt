use Rattle.std.proofs.Common.{map}
use Rattle.tables.specs.Leaving.{Kept}
use Rattle.tables.specs.Rows.{held, capacity}
use Rattle.tree.specs.Trees.{on}
use Rattle.expand.specs.Stating.{stated, stated_at}
use Rattle.expand.proofs.Walks.{Walk}
use Rattle.expand.proofs.runs.fill.Given as goal

abbrev pub invariant-rows : goal.invariant-rows
invariant-rows l = record {
  walk : Walk l.until (capacity l.fn.runs) (on stated l.tree l.timeline) (map (on stated_at l.tree) l.row-iterator) l.free l.total l.pushed (held l.runs);
  kept : Kept l.fn.runs l.runs;
}
