-- What comes of reading a manifest and checking its rows.
use Rattle.std.specs.Prelude.{ℕ, cond, List, [], length, Ok, Err, Result, nat_le}
use Rattle.tables.specs.Rows.{capacity}
use Rattle.tables.specs.declared.manifest.ManifestRows.{ManifestRows}
use Rattle.tables.specs.declared.store.Table.{Table}
use Rattle.reader.specs.Machine.{Outcome, accepted, refused, reading}
use Rattle.rules.specs.Findings.{findings}
use Rattle.rules.specs.declared.rule.CheckFault.TheVariants.{FindingsFull}
use Rattle.rules.specs.declared.rule.Finding.{Finding}
use Rattle.listing.specs.declared.fault.ListFault.{ListFault}
use Rattle.listing.specs.declared.fault.ListFault.TheVariants.{Read, Check}

-- the answer, where the findings have F rows: the first refusal that is met
abbrev pub answer_of : List ℕ → ℕ → Outcome → Result (Unit {0}) ListFault
answer_of m F (accepted es xs) = cond (nat_le (length (findings m es xs)) F) (Ok tt) (Err (Check FindingsFull))
answer_of m F (refused k p) = Err (Read record { refusal = k; byte = p })

-- the findings that are left: none after a refusal
abbrev pub findings_of : List ℕ → ℕ → Outcome → List Finding
findings_of m F (accepted es xs) = cond (nat_le (length (findings m es xs)) F) (findings m es xs) []
findings_of m F (refused k p) = []

-- the same of a manifest, with tables of E, A and F rows
abbrev pub surveyed : List ℕ → ℕ → ℕ → ℕ → Result (Unit {0}) ListFault
surveyed m E A F = answer_of m F (reading m E A)

abbrev pub listed : List ℕ → ℕ → ℕ → ℕ → List Finding
listed m E A F = findings_of m F (reading m E A)

-- the same with these tables
abbrev pub surveyed_into : List ℕ → ManifestRows → Table Finding → Result (Unit {0}) ListFault
surveyed_into m t f = surveyed m (capacity t.elements) (capacity t.attributes) (capacity f)

abbrev pub listed_into : List ℕ → ManifestRows → Table Finding → List Finding
listed_into m t f = listed m (capacity t.elements) (capacity t.attributes) (capacity f)
