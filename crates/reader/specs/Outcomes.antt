-- What a call of reading answers and leaves.
use Rattle.std.specs.Prelude.{ℕ, List, [], Ok, Err, Result}
use Rattle.tables.specs.Leaving.{Filled}
use Rattle.tables.specs.Rows.{capacity}
use Rattle.tables.specs.Zero.{no_element, no_attribute}
use Rattle.tables.specs.declared.manifest.Attribute.{Attribute}
use Rattle.tables.specs.declared.manifest.Element.{Element}
use Rattle.tables.specs.declared.manifest.ManifestRows.{ManifestRows}
use Rattle.reader.specs.Machine.{Outcome, accepted, refused, reading}
use Rattle.reader.specs.declared.fault.ReadFault.{ReadFault}
use Rattle.reader.specs.declared.fault.ReadRefusal.{ReadRefusal}

-- the refusal k at the byte p
abbrev pub fault : ReadRefusal → ℕ → ReadFault
fault k p = record { refusal = k; byte = p }

abbrev pub answer : Outcome → Result (Unit {0}) ReadFault
answer (accepted es xs) = Ok tt
answer (refused k p) = Err (fault k p)

-- the rows that are left: none after a refusal
abbrev pub elements_of : Outcome → List Element
elements_of (accepted es xs) = es
elements_of (refused k p) = []

abbrev pub attributes_of : Outcome → List Attribute
attributes_of (accepted es xs) = xs
attributes_of (refused k p) = []

-- reading went on as r says: to what then came, or to a refusal
abbrev pub went : {X : Type 0} → Result X ReadFault → (X → Outcome) → Outcome
went (Ok x) go = go x
went (Err f) go = refused f.refusal f.byte

-- what comes of reading the manifest m into the tables t
abbrev pub read_into : List ℕ → ManifestRows → Outcome
read_into m t = reading m (capacity t.elements) (capacity t.attributes)

-- the tables u are t with the rows that come of reading the manifest m
pub record Tabled (m : List ℕ) (t u : ManifestRows) : Type 0 where
  pub elements : Filled no_element t.elements (elements_of (read_into m t)) u.elements
  pub attributes : Filled no_attribute t.attributes (attributes_of (read_into m t)) u.attributes
