-- What comes of reading a manifest, checking its rows and resolving them.
use Rattle.std.specs.Prelude.{ℕ, List, [], ◌∷◌, Some, None, Ok, Err, Option, Result}
use Rattle.listing.specs.Surveys.{surveyed as checked, listed}
use Rattle.listing.specs.declared.fault.ListFault.{ListFault as SurveyFault}
use Rattle.presentation.specs.declared.plan.Plan.{Plan}
use Rattle.reader.specs.Machine.{reading}
use Rattle.reader.specs.Outcomes.{elements_of, attributes_of}
use Rattle.resolve.specs.Outcome.{outcome, runs_left}
use Rattle.resolve.specs.Values.{Values, values_of, timeline_by, address_by}
use Rattle.resolve.specs.declared.fault.ResolveFault.{ResolveFault}
use Rattle.rules.specs.declared.rule.Finding.{Finding}
use Rattle.tables.specs.Rows.{capacity}
use Rattle.tables.specs.declared.manifest.ManifestRows.{ManifestRows}
use Rattle.tables.specs.declared.store.Table.{Table}
use Rattle.timeline.specs.declared.run.Run.{Run}
use Rattle.full_listing.specs.Lines.{lines_by}
use Rattle.full_listing.specs.declared.fault.ListFault.{ListFault}
use Rattle.full_listing.specs.declared.fault.ListFault.TheVariants.{Survey, Resolve}

abbrev pub resolved : Result Values ResolveFault → Result (Option Values) ListFault
resolved (Ok v) = Ok (Some v)
resolved (Err e) = Err (Resolve e)

-- the answer: a refusal of reading or check, no values where there are findings, and else what comes of resolving
abbrev pub answer_of : Result (Unit {0}) SurveyFault → List Finding → Result Values ResolveFault → Result (Option Values) ListFault
answer_of (Ok u) [] values = resolved values
answer_of (Ok u) (f ∷ fs) values = Ok None
answer_of (Err e) fs values = Err (Survey e)

-- the runs that are left: none after a refusal or where there are findings
abbrev pub left_of : Result (Unit {0}) SurveyFault → List Finding → List Run → List Run
left_of (Ok u) [] runs = runs
left_of (Ok u) (f ∷ fs) runs = []
left_of (Err e) fs runs = []

-- the same of a manifest, with tables of E, A, F and R rows, for its first Period's first Representation
abbrev pub surveyed : List ℕ → ℕ → ℕ → ℕ → ℕ → Result (Option Values) ListFault
surveyed m E A F R = answer_of (checked m E A F) (listed m E A F) (outcome m (elements_of (reading m E A)) (attributes_of (reading m E A)) 0 0 R)

abbrev pub runs_of : List ℕ → ℕ → ℕ → ℕ → ℕ → List Run
runs_of m E A F R = left_of (checked m E A F) (listed m E A F) (runs_left m (elements_of (reading m E A)) (attributes_of (reading m E A)) 0 0 R)

-- the listing of a manifest
abbrev pub listing : List ℕ → ℕ → ℕ → ℕ → ℕ → List (List ℕ)
listing m E A F R = lines_by timeline_by address_by (surveyed m E A F R) (elements_of (reading m E A)) (listed m E A F) (runs_of m E A F R)

-- the same with these tables
module _ (m : List ℕ) (t : ManifestRows) (f : Table Finding) (r : Table Run) where
  abbrev pub surveyed_into : Result (Option Values) ListFault
  surveyed_into = surveyed m (capacity t.elements) (capacity t.attributes) (capacity f) (capacity r)

  abbrev pub runs_into : List Run
  runs_into = runs_of m (capacity t.elements) (capacity t.attributes) (capacity f) (capacity r)

  abbrev pub listing_into : List (List ℕ)
  listing_into = listing m (capacity t.elements) (capacity t.attributes) (capacity f) (capacity r)

-- an answer by its values
abbrev pub meaning_of : Result (Option Plan) ListFault → Result (Option Values) ListFault
meaning_of (Ok (Some p)) = Ok (Some (values_of p))
meaning_of (Ok None) = Ok None
meaning_of (Err e) = Err e
