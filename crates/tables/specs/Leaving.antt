-- What a call leaves of a table.
use Rattle.std.specs.Prelude.{◌≡◌, ℕ, List, [], Ok, Err, Result}
use Rattle.tables.specs.Rows.{held, capacity, Clean}
use Rattle.tables.specs.declared.store.Table.{Table}

-- the table u is t after some rows more: the same slice, and no less clean
pub record Kept {X : Type 0} (t u : Table X) : Type 0 where
  pub capacity : capacity u ≡ capacity t
  pub lent : u.rows.ghost_name ≡ t.rows.ghost_name
  pub clean : (z : X) → Clean z t → Clean z u

-- the table u is t with these rows and no others: the same slice, and every unused row is z
pub record Filled {X : Type 0} (z : X) (t : Table X) (rows : List X) (u : Table X) : Type 0 where
  pub held : held u ≡ rows
  pub clean : Clean z u
  pub capacity : capacity u ≡ capacity t
  pub lent : u.rows.ghost_name ≡ t.rows.ghost_name

-- the rows that are left behind an answer: none after a refusal
abbrev pub left_after : {E X : Type 0} → Result (Unit {0}) E → List X → List X
left_after (Ok u) rows = rows
left_after (Err e) rows = []

-- the table t has so many rows, none of them in use and each of them z
pub record Fresh {X : Type 0} (z : X) (most : ℕ) (t : Table X) : Type 0 where
  pub held : held t ≡ []
  pub clean : Clean z t
  pub capacity : capacity t ≡ most
