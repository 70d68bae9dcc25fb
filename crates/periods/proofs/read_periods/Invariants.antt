use Rattle.std.proofs.Common.{◌≡◌, ◌+◌, take}
use Rattle.tree.specs.Trees.{on}
use Rattle.periods.specs.Starts.{periods}
use Rattle.periods.proofs.Asks.{unread_by}
use Rattle.periods.proofs.read_periods.Given as goal

abbrev pub invariant-periods : goal.invariant-periods
invariant-periods l = on unread_by l.tree (take (l.position + 2) (on periods l.tree)) ≡ on unread_by l.tree (take l.row-iterator.n l.row-iterator.iter)
