-- From a manifest's bytes to its values and runs.
use Rattle.std.specs.Prelude.{◌≡◌, ℕ, List, [], Ok, Err, Result}
use Rattle.chosen.specs.declared.Positions.{Positions}
use Rattle.tables.specs.Leaving.{Filled}
use Rattle.tables.specs.Rows.{capacity}
use Rattle.tables.specs.declared.manifest.ManifestRows.{ManifestRows}
use Rattle.tables.specs.declared.store.Table.{Table}
use Rattle.timeline.specs.Runs.{no_run}
use Rattle.reader.specs.Outcomes.{Tabled}
use Rattle.reader.specs.Machine.{Outcome, accepted, refused, reading}
use Rattle.resolve.specs.Outcome.{outcome, runs_left}
use Rattle.resolve.specs.Values.{Values, bottom_by, written_by}
use Rattle.resolve.specs.declared.fault.ResolveFault.{ResolveFault}
use Rattle.presentation.specs.Sums.{Accounts}
use Rattle.presentation.specs.declared.sums.Sums.{Sums}
use Rattle.timeline.specs.declared.run.Run.{Run}
use Rattle.player.specs.declared.fault.OpenFault.{OpenFault}
use Rattle.player.specs.declared.fault.OpenFault.TheVariants.{Read, Resolve}

-- the answer of resolve, as one about the manifest
abbrev pub resolved : Result Values ResolveFault → Result Values OpenFault
resolved (Ok v) = Ok v
resolved (Err e) = Err (Resolve e)

-- what comes of rows that were read, with R rows for runs and the positions i and j
abbrev pub opened_by : List ℕ → ℕ → ℕ → ℕ → Outcome → Result Values OpenFault
opened_by m R i j (accepted es xs) = resolved (outcome m es xs i j R)
opened_by m R i j (refused k p) = Err (Read record { refusal = k; byte = p })

abbrev pub runs_by : List ℕ → ℕ → ℕ → ℕ → Outcome → List Run
runs_by m R i j (accepted es xs) = runs_left m es xs i j R
runs_by m R i j (refused k p) = []

-- the values of a manifest, with tables of E, A and R rows, for the Period at the position i and its Representation
-- at the position j; the manifest is accepted exactly if there are such
abbrev pub opened : List ℕ → ℕ → ℕ → ℕ → ℕ → ℕ → Result Values OpenFault
opened m E A R i j = opened_by m R i j (reading m E A)

-- and its runs: none after a refusal
abbrev pub opened_runs : List ℕ → ℕ → ℕ → ℕ → ℕ → ℕ → List Run
opened_runs m E A R i j = runs_by m R i j (reading m E A)

-- the same with these tables, for these positions
abbrev pub opened_into : List ℕ → Positions → ManifestRows → Table Run → Result Values OpenFault
opened_into m at t r = opened m (capacity t.elements) (capacity t.attributes) (capacity r) at.period at.representation

abbrev pub runs_into : List ℕ → Positions → ManifestRows → Table Run → List Run
runs_into m at t r = opened_runs m (capacity t.elements) (capacity t.attributes) (capacity r) at.period at.representation

-- the tables t' and r' are t and r with the rows of the manifest and its runs
pub record Left (m : List ℕ) (at : Positions) (t : ManifestRows) (r : Table Run) (t' : ManifestRows) (r' : Table Run) : Type 0 where
  pub rows : Tabled m t t'
  pub runs : Filled no_run r (runs_into m at t r) r'

-- the sums of a manifest with these values and runs: what is listed and the parts that are cut away add up to what it writes
pub record SumsOf (v : Values) (runs : List Run) (s : Sums) : Type 0 where
  pub parts : Accounts (bottom_by v runs) v.offset v.period s
  pub written : s.written ≡ written_by v.kind v.period runs
