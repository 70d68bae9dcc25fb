-- The rows behind the one that was written are as they were.
use Rattle.std.proofs.Common.{◌≡◌, ℕ, ◌+◌, ◌-◌, List, length, drop, set, replicate, arith, length-set}
use Rattle.std.proofs.lemmas.List.{drop-drop, drop-set-lt, drop-replicate}
use Rattle.tables.proofs.store.Table.push.Goals as goal

still_zero : {X : Type 0} (rows : List X) (z x : X) (used : ℕ) → drop used rows ≡ replicate (length rows - used) z → drop (used + 1) (set rows used x) ≡ replicate (length (set rows used x) - (used + 1)) z
still_zero rows z x used e = grind (arith, length-set, drop-set-lt, drop-drop 1 used rows, drop-replicate 1 (length rows - used) z)

pub returns-clause-clean : goal.returns-clause-clean
returns-clause-clean g c = λ z. still_zero c.args.self.now.rows.now z _ c.args.self.now.used
