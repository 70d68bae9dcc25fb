-- What the rows hold while a manifest is read, and what a call leaves of them.
use Rattle.std.specs.Prelude.{◌≡◌, [], ◌∷◌, ◌++◌}
use Rattle.tables.specs.Leaving.{Kept}
use Rattle.tables.specs.Rows.{held, capacity}
use Rattle.tables.specs.declared.manifest.Attribute.{Attribute}
use Rattle.tables.specs.declared.manifest.Element.{Element}
use Rattle.tables.specs.declared.span.Span.{Span}
use Rattle.tables.specs.declared.store.Table.{Table}
use Rattle.reader.specs.Cursor.{comes}
use Rattle.reader.specs.Machine.{Document, State, Outcome, accepted, document, row}
use Rattle.reader.specs.declared.lexer.Reader.{Reader}
use Rattle.reader.specs.declared.lexer.rows.Rows.{Rows}

-- what has been read
abbrev pub documented : Rows → Document
documented t = document (held t.elements.now) (held t.attributes.now) t.inner t.depth

-- what comes of the state s at the cursor, with the room of the tables
abbrev pub after : Reader → Rows → State → Outcome
after r t s = comes r (capacity t.elements.now) (capacity t.attributes.now) s

-- the manifest is read, into the rows of these tables
abbrev pub accepted_in : Table Element → Table Attribute → Outcome
accepted_in es xs = accepted (held es) (held xs)

-- the element e with the text t is read
abbrev pub added : Document → Span → Span → Document
added d e t = document (d.elements ++ (row d e t ∷ [])) d.attributes d.inner d.depth

-- the tables of u are those of t after some rows more
pub record Gained (t u : Rows) : Type 0 where
  pub elements : Kept t.elements.now u.elements.now
  pub attributes : Kept t.attributes.now u.attributes.now
  pub elements_lent : u.elements.ghost_name ≡ t.elements.ghost_name
  pub attributes_lent : u.attributes.ghost_name ≡ t.attributes.ghost_name

-- u is t but for some attributes more
pub record Attributed (t u : Rows) : Type 0 where
  pub elements : u.elements.now ≡ t.elements.now
  pub attributes : Kept t.attributes.now u.attributes.now
  pub inner : u.inner ≡ t.inner
  pub depth : u.depth ≡ t.depth
  pub elements_lent : u.elements.ghost_name ≡ t.elements.ghost_name
  pub attributes_lent : u.attributes.ghost_name ≡ t.attributes.ghost_name
