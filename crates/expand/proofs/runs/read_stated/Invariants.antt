use Rattle.std.proofs.Common.{◌≡◌}
use Rattle.tree.specs.Trees.{on}
use Rattle.values.specs.Given.{some_unread}
use Rattle.expand.specs.Stating.{asked_in, asked_by}
use Rattle.expand.proofs.runs.read_stated.Given as goal

abbrev pub invariant-rows : goal.invariant-rows
invariant-rows l = some_unread (on asked_in l.tree l.timeline) ≡ some_unread (on asked_by l.tree l.row-iterator)
