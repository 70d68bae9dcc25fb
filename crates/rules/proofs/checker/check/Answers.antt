use Rattle.std.proofs.Common.{◌≡◌, ◌+◌, ◌<◌, ◌≤◌, ◌++◌, length, true, false, is_err, Ok, Err, Result, MatchResult, sym, refl, ap, ◌∙◌, subst, arith}
use Rattle.std.proofs.lemmas.Bool.{true≢false}
use Rattle.tables.specs.Rows.{held, capacity}
use Rattle.tables.specs.declared.row.Full.{Full}
use Rattle.tree.specs.Trees.{on}
use Rattle.rules.specs.Broken.{broken, rules}
use Rattle.rules.specs.Findings.{failing, findings, findings_below, no_finding}
use Rattle.rules.specs.Laws.{LawOn}
use Rattle.rules.proofs.Made.{below_listed, below_grows, lawful}
use Rattle.rules.proofs.checker.check.Goals as goal

-- what a call says of its answer, by the test for a refusal
told : {P Q : Type 0} (r : Result (Unit {0}) Full) → MatchResult r (λ _. P) (λ _. Q) → (is_err r ≡ false → P) × (is_err r ≡ true → Q)
told (Ok u) h = (λ _. h, λ e. absurd (true≢false (sym e)))
told (Err e) h = (λ e. absurd (true≢false e), λ _. h)

pub rows-preserved : goal.rows-preserved
rows-preserved c =
    let t = c.args.tree.now in
    let inv = c.rows.invariant in
    let kept = c.list_at.ensures.kept in
    let more = (told c.list_at.result c.list_at.ensures.answer).0 (sym c.is_err.ensures.value ∙ c.if-is_err.false) in
    record {
      held = below_listed t.manifest.now t.elements.now t.attributes.now c.rows.row (held c.rows.table) (held c.list_at.new.table) inv.held more;
      clean = kept.clean no_finding inv.clean;
      capacity = kept.capacity ∙ inv.capacity;
      lent = kept.lent ∙ inv.lent;
    }

pub returns-then-is_err-clause-answer : goal.returns-then-is_err-clause-answer
returns-then-is_err-clause-answer c =
    let t = c.args.tree.now in
    let m = t.manifest.now in
    let es = t.elements.now in
    let attrs = t.attributes.now in
    let k = c.rows.row in
    let inv = c.rows.invariant in
    let all = held c.rows.table ++ failing (on broken t k) k rules in
    let over : capacity c.rows.table < length all = (told c.list_at.result c.list_at.ensures.answer).1 (sym c.is_err.ensures.value ∙ c.if-is_err.true) in
    let up : length all ≡ length (findings_below m es attrs (k + 1)) = ap length (below_listed m es attrs k (held c.rows.table) all inv.held refl) in
    let whole : length (findings_below m es attrs (k + 1)) ≤ length (findings m es attrs) = below_grows m es attrs (k + 1) (length es) (omega arith) in
    (refl, omega (arith, inv.capacity))

pub returns-clause-law : goal.returns-clause-law
returns-clause-law c =
    let t = c.args.tree.now in
    let end : c.rows.row ≡ length t.elements.now = omega arith in
    let is : held c.rows.table ≡ on findings t = c.rows.invariant.held ∙ ap (on findings_below t) end in
    subst (LawOn t) (sym is) (lawful t.manifest.now t.elements.now t.attributes.now)
