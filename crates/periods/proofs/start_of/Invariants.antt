use Rattle.std.proofs.Common.{◌≤◌}
use Rattle.periods.proofs.Steps.{Walked}
use Rattle.periods.proofs.start_of.Given as goal

abbrev pub invariant-periods : goal.invariant-periods
invariant-periods l = (l.counter ≤ l.position) × Walked l.tree.manifest.now l.tree.elements.now l.tree.attributes.now l.counter l.left l.following
