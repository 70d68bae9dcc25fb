-- What the steps of a survey come to, one after the other.
use Rattle.std.proofs.Common.{◌≡◌, ℕ, ◌<◌, ◌≤◌, List, [], ◌∷◌, length, Some, None, Ok, Err, Option, Result, refl, ap, ◌∙◌, arith}
use Rattle.listing.specs.Surveys.{surveyed as checked, listed}
use Rattle.listing.specs.declared.fault.ListFault.{ListFault as SurveyFault}
use Rattle.presentation.specs.declared.plan.Plan.{Plan}
use Rattle.reader.specs.Machine.{reading}
use Rattle.reader.specs.Outcomes.{elements_of, attributes_of}
use Rattle.resolve.specs.Outcome.{outcome, runs_left}
use Rattle.resolve.specs.Values.{Values, Whole, timeline_by, address_by}
use Rattle.resolve.specs.declared.fault.ResolveFault.{ResolveFault}
use Rattle.rules.specs.declared.rule.Finding.{Finding}
use Rattle.tables.specs.declared.manifest.Attribute.{Attribute}
use Rattle.tables.specs.declared.manifest.Element.{Element}
use Rattle.timeline.specs.declared.run.Run.{Run}
use Rattle.full_listing.specs.Lines.{lines_by, lines_of}
use Rattle.full_listing.specs.Surveys.{resolved, answer_of, left_of, surveyed, runs_of, meaning_of}
use Rattle.full_listing.specs.declared.fault.ListFault.{ListFault}
use Rattle.full_listing.proofs.Plans.{plan_lines}

-- a manifest that was read and checked
module _ (r : Result (Unit {0}) SurveyFault) (u : Unit {0}) (ok : Ok u ≡ r) where
  found : (fs : List Finding) (v : Result Values ResolveFault) → 0 < length fs → Ok None ≡ answer_of (Ok u) fs v
  found [] v h = absurd (omega arith)
  found (f ∷ fs) v h = refl

  none_left : (fs : List Finding) (runs : List Run) → 0 < length fs → [] ≡ left_of (Ok u) fs runs
  none_left [] runs h = absurd (omega arith)
  none_left (f ∷ fs) runs h = refl

  clear : (fs : List Finding) (v : Result Values ResolveFault) → length fs ≤ 0 → resolved v ≡ answer_of (Ok u) fs v
  clear [] v h = refl
  clear (f ∷ fs) v h = absurd (omega arith)

  all_left : (fs : List Finding) (runs : List Run) → length fs ≤ 0 → runs ≡ left_of (Ok u) fs runs
  all_left [] runs h = refl
  all_left (f ∷ fs) runs h = absurd (omega arith)

  answer_found : (fs : List Finding) (v : Result Values ResolveFault) → 0 < length fs → Ok None ≡ answer_of r fs v
  answer_found fs v h = found fs v h ∙ ap (λ a. answer_of a fs v) ok

  left_found : (fs : List Finding) (runs : List Run) → 0 < length fs → [] ≡ left_of r fs runs
  left_found fs runs h = none_left fs runs h ∙ ap (λ a. left_of a fs runs) ok

  answer_clear : (fs : List Finding) (v : Result Values ResolveFault) → length fs ≤ 0 → resolved v ≡ answer_of r fs v
  answer_clear fs v h = clear fs v h ∙ ap (λ a. answer_of a fs v) ok

  left_clear : (fs : List Finding) (runs : List Run) → length fs ≤ 0 → runs ≡ left_of r fs runs
  left_clear fs runs h = all_left fs runs h ∙ ap (λ a. left_of a fs runs) ok

-- the same of a manifest
module _ (m : List ℕ) (E A F R : ℕ) (u : Unit {0}) (ok : Ok u ≡ checked m E A F) where
  pub surveyed_found : 0 < length (listed m E A F) → Ok None ≡ surveyed m E A F R
  surveyed_found h = answer_found (checked m E A F) u ok (listed m E A F) (outcome m (elements_of (reading m E A)) (attributes_of (reading m E A)) 0 0 R) h

  pub runs_found : 0 < length (listed m E A F) → [] ≡ runs_of m E A F R
  runs_found h = left_found (checked m E A F) u ok (listed m E A F) (runs_left m (elements_of (reading m E A)) (attributes_of (reading m E A)) 0 0 R) h

  pub surveyed_clear : length (listed m E A F) ≤ 0 → resolved (outcome m (elements_of (reading m E A)) (attributes_of (reading m E A)) 0 0 R) ≡ surveyed m E A F R
  surveyed_clear h = answer_clear (checked m E A F) u ok (listed m E A F) (outcome m (elements_of (reading m E A)) (attributes_of (reading m E A)) 0 0 R) h

  pub runs_clear : length (listed m E A F) ≤ 0 → runs_left m (elements_of (reading m E A)) (attributes_of (reading m E A)) 0 0 R ≡ runs_of m E A F R
  runs_clear h = left_clear (checked m E A F) u ok (listed m E A F) (runs_left m (elements_of (reading m E A)) (attributes_of (reading m E A)) 0 0 R) h

-- the same manifest, the same rows and as many runs
module _ {m m' : List ℕ} {es es' : List Element} {xs xs' : List Attribute} {rows rows' : ℕ} (o : m ≡ m') (e : es ≡ es') (x : xs ≡ xs') (n : rows ≡ rows') where
  pub outcome_same : outcome m es xs 0 0 rows ≡ outcome m' es' xs' 0 0 rows'
  outcome_same = λ i. outcome (o i) (e i) (x i) 0 0 (n i)

  pub left_same : runs_left m es xs 0 0 rows ≡ runs_left m' es' xs' 0 0 rows'
  left_same = λ i. runs_left (o i) (e i) (x i) 0 0 (n i)

-- the runs of a plan, if there is one, give its whole bottom timeline
abbrev pub WholeIfAny : Result (Option Plan) ListFault → List Run → Type 0
WholeIfAny (Ok (Some p)) runs = Whole p runs
WholeIfAny (Ok None) runs = Unit {0}
WholeIfAny (Err e) runs = Unit {0}

by_values : (r : Result (Option Plan) ListFault) (es : List Element) (fs : List Finding) (runs : List Run) → WholeIfAny r runs → lines_of r es fs runs ≡ lines_by timeline_by address_by (meaning_of r) es fs runs
by_values (Ok (Some p)) es fs runs whole = plan_lines p runs whole
by_values (Ok None) es fs runs whole = refl
by_values (Err e) es fs runs whole = refl

-- the lines of an answer with rows that are known
pub listed_lines : (r : Result (Option Plan) ListFault) {a : Result (Option Values) ListFault} {es es' : List Element} {fs fs' : List Finding} {runs runs' : List Run} → WholeIfAny r runs → meaning_of r ≡ a → es ≡ es' → fs ≡ fs' → runs ≡ runs' → lines_of r es fs runs ≡ lines_by timeline_by address_by a es' fs' runs'
listed_lines r {a} {es} {es'} {fs} {fs'} {runs} {runs'} whole answer e f n =
    by_values r es fs runs whole
    ∙ ap (λ v. lines_by timeline_by address_by v es fs runs) answer
    ∙ ap (λ v. lines_by timeline_by address_by a v fs runs) e
    ∙ ap (λ v. lines_by timeline_by address_by a es' v runs) f
    ∙ ap (λ v. lines_by timeline_by address_by a es' fs' v) n
