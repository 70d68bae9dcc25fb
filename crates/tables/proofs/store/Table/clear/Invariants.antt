-- The rows written so far are zero.
use Rattle.std.proofs.Common.{◌≡◌, take, replicate}
use Rattle.tables.proofs.store.Table.clear.Given as goal

abbrev pub invariant-loop-row : goal.invariant-loop-row
invariant-loop-row g l = take l.row-index l.row-items ≡ replicate l.row-index g.R.Row.zero
