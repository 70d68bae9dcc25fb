use Rattle.std.proofs.Common.{◌≡◌, ◌<◌, ◌≤◌, length, Some, None, Ok, ap, ◌∙◌, arith}
use Rattle.resolve.specs.Values.{values_of}
use Rattle.tables.specs.Rows.{held, capacity}
use Rattle.listing.specs.Surveys.{listed}
use Rattle.full_listing.specs.Surveys.{resolved, surveyed, runs_of}
use Rattle.full_listing.proofs.Steps.{surveyed_found, runs_found, surveyed_clear, runs_clear, outcome_same, left_same, listed_lines}
use Rattle.full_listing.proofs.surveying.survey.Goals as goal

pub returns-then-len-gt0-clause-answer : goal.returns-then-len-gt0-clause-answer
returns-then-len-gt0-clause-answer c =
    let m = c.args.manifest.now in
    let E = capacity c.args.rows.now.elements in
    let A = capacity c.args.rows.now.attributes in
    let F = capacity c.args.findings.now in
    let R = capacity c.args.runs.now in
    let did = c.examine.ensures in
    let ok = c.in_ok-examine.ensures.answer in
    let some : 0 < length (listed m E A F) = omega (arith, ap length did.findings.held, c.len.ensures, c.if-len-gt0.true) in
    surveyed_found m E A F R c.in_ok-examine.field-0 ok some

pub returns-then-len-gt0-clause-lines : goal.returns-then-len-gt0-clause-lines
returns-then-len-gt0-clause-lines c =
    let m = c.args.manifest.now in
    let E = capacity c.args.rows.now.elements in
    let A = capacity c.args.rows.now.attributes in
    let F = capacity c.args.findings.now in
    let R = capacity c.args.runs.now in
    let did = c.examine.ensures in
    let ok = c.in_ok-examine.ensures.answer in
    let some : 0 < length (listed m E A F) = omega (arith, ap length did.findings.held, c.len.ensures, c.if-len-gt0.true) in
    listed_lines (Ok None) tt (surveyed_found m E A F R c.in_ok-examine.field-0 ok some) did.tables.elements.held did.findings.held (c.clear.ensures.held ∙ runs_found m E A F R c.in_ok-examine.field-0 ok some)

pub returns-then-len-gt0-clause-runs : goal.returns-then-len-gt0-clause-runs
returns-then-len-gt0-clause-runs c =
    let m = c.args.manifest.now in
    let E = capacity c.args.rows.now.elements in
    let A = capacity c.args.rows.now.attributes in
    let F = capacity c.args.findings.now in
    let R = capacity c.args.runs.now in
    let did = c.examine.ensures in
    let ok = c.in_ok-examine.ensures.answer in
    let some : 0 < length (listed m E A F) = omega (arith, ap length did.findings.held, c.len.ensures, c.if-len-gt0.true) in
    record { held = c.clear.ensures.held ∙ runs_found m E A F R c.in_ok-examine.field-0 ok some; clean = c.clear.ensures.clean; capacity = c.clear.ensures.capacity; lent = c.clear.ensures.lent }

pub returns-clause-lines : goal.returns-clause-lines
returns-clause-lines c =
    let m = c.args.manifest.now in
    let E = capacity c.args.rows.now.elements in
    let A = capacity c.args.rows.now.attributes in
    let F = capacity c.args.findings.now in
    let R = capacity c.args.runs.now in
    let did = c.examine.ensures in
    let ok = c.in_ok-examine.ensures.answer in
    let none : length (listed m E A F) ≤ 0 = omega (arith, ap length did.findings.held, c.len.ensures, c.if-len-gt0.false) in
    let made = c.in_ok-plan.ensures in
    let plan = c.in_ok-plan.plan in
    let e = c.of.ensures.elements ∙ did.tables.elements.held in
    let x = c.of.ensures.attributes ∙ did.tables.attributes.held in
    let n = c.clear.ensures.capacity in
    let answer : Ok (Some (values_of plan)) ≡ surveyed m E A F R = ap resolved (made.answer ∙ outcome_same c.of.ensures.manifest e x n) ∙ surveyed_clear m E A F R c.in_ok-examine.field-0 ok none in
    let runs : held c.resolve.new.runs ≡ runs_of m E A F R = made.runs.held ∙ left_same c.of.ensures.manifest e x n ∙ runs_clear m E A F R c.in_ok-examine.field-0 ok none in
    listed_lines (Ok (Some plan)) made.whole answer did.tables.elements.held did.findings.held runs

pub returns-clause-runs : goal.returns-clause-runs
returns-clause-runs c =
    let m = c.args.manifest.now in
    let E = capacity c.args.rows.now.elements in
    let A = capacity c.args.rows.now.attributes in
    let F = capacity c.args.findings.now in
    let R = capacity c.args.runs.now in
    let did = c.examine.ensures in
    let ok = c.in_ok-examine.ensures.answer in
    let none : length (listed m E A F) ≤ 0 = omega (arith, ap length did.findings.held, c.len.ensures, c.if-len-gt0.false) in
    let made = c.in_ok-plan.ensures in
    let e = c.of.ensures.elements ∙ did.tables.elements.held in
    let x = c.of.ensures.attributes ∙ did.tables.attributes.held in
    let n = c.clear.ensures.capacity in
    let runs : held c.resolve.new.runs ≡ runs_of m E A F R = made.runs.held ∙ left_same c.of.ensures.manifest e x n ∙ runs_clear m E A F R c.in_ok-examine.field-0 ok none in
    record { held = runs; clean = made.runs.clean; capacity = made.runs.capacity ∙ n; lent = made.runs.lent ∙ c.clear.ensures.lent }
