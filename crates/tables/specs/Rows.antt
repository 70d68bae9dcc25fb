-- What a table holds.
use Rattle.std.specs.Prelude.{◌≡◌, ℕ, ◌-◌, List, length, take, drop, replicate}
use Rattle.tables.specs.declared.store.Table.{Table}

-- the rows in use, in the order in which they came
abbrev pub held : {X : Type 0} → Table X → List X
held t = take t.used t.rows.now

-- how many rows the table has, used or not
abbrev pub capacity : {X : Type 0} → Table X → ℕ
capacity t = length t.rows.now

-- every row that is not in use is z
abbrev pub Clean : {X : Type 0} → X → Table X → Type 0
Clean z t = drop t.used t.rows.now ≡ replicate (length t.rows.now - t.used) z

-- no row is left to use
abbrev pub IsFull : {X : Type 0} → Table X → Type 0
IsFull t = length (held t) ≡ capacity t
