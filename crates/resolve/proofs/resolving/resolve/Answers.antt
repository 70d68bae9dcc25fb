use Rattle.std.proofs.Common.{◌≡◌, false, Some, None, sym, ap, ◌∙◌, subst}
use Rattle.std.proofs.lemmas.Result.{err_from_is_err_and}
use Rattle.bottom.specs.Placing.{unless}
use Rattle.presentation.specs.Lists.{given_by}
use Rattle.tables.specs.Rows.{capacity, held}
use Rattle.template.specs.Reading.{broken}
use Rattle.tree.specs.Trees.{on}
use Rattle.resolve.specs.Outcome.{first_of, timing, leaving, runs_by, texts_by, values_with}
use Rattle.resolve.specs.Values.{Texts, Values, values_of, defined_by}
use Rattle.resolve.proofs.Media.{media_whole}
use Rattle.resolve.proofs.Outcomes.{early, untimed, unaddressable, accepted}
use Rattle.resolve.proofs.Written.{adds_up}
use Rattle.resolve.proofs.resolving.resolve.Goals as goal

pub returns-in_err-prepared : goal.returns-in_err-prepared
returns-in_err-prepared c =
    let p = err_from_is_err_and c.from_residual.result c.from_residual.ensures.1 in
    let so = early c.args.tree.now c.args.at.period c.args.at.representation (capacity c.args.runs.now) c.in_err-prepared.field-0.0 c.in_err-prepared.ensures.refusal in
    rw (p.1, p.2) record {
      answer = so.answer';
      first = so.first;
      runs = record { held = c.clear.ensures.held ∙ so.runs'; clean = c.clear.ensures.clean; capacity = c.clear.ensures.capacity; lent = c.clear.ensures.lent };
      sum = tt;
      whole = tt;
    }

pub returns-in_err-kind : goal.returns-in_err-kind
returns-in_err-kind c =
    let t = c.args.tree.now in
    let q = c.in_ok-prepared.prepared in
    let known = c.in_ok-prepared.ensures in
    let p = err_from_is_err_and c.from_residual-in_err-kind.result c.from_residual-in_err-kind.ensures.1 in
    let e = c.in_err-kind.field-0.0 in
    let refused : first_of (on timing t q (capacity c.args.runs.now)) ≡ Some e = subst (λ n. first_of (on timing t q n) ≡ Some e) c.clear.ensures.capacity c.in_err-kind.ensures.refusal in
    let so = untimed t c.args.at.period c.args.at.representation (capacity c.args.runs.now) q known.refusal known.value e refused in
    rw (p.1, p.2) record {
      answer = so.answer';
      first = so.first;
      runs = record {
        held = c.give.ensures.runs.held ∙ ap (λ o. on leaving t o (on runs_by t q)) c.in_err-kind.ensures.refusal ∙ so.runs';
        clean = c.give.ensures.runs.clean;
        capacity = c.give.ensures.runs.capacity ∙ c.clear.ensures.capacity;
        lent = c.give.ensures.runs.lent ∙ c.clear.ensures.lent;
      };
      sum = tt;
      whole = tt;
    }

pub address-requires : goal.address-requires
address-requires c =
    let t = c.args.tree.now in
    media_whole t.manifest.now t.elements.now t.attributes.now c.args.at.period c.args.at.representation c.in_ok-prepared.ensures.refusal c.in_ok-prepared.prepared.chosen

pub returns-in_default : goal.returns-in_default
returns-in_default c =
    let t = c.args.tree.now in
    let q = c.in_ok-prepared.prepared in
    let known = c.in_ok-prepared.ensures in
    let timed : first_of (on timing t q (capacity c.args.runs.now)) ≡ None = subst (λ n. first_of (on timing t q n) ≡ None) c.clear.ensures.capacity c.in_ok-kind.ensures.refusal in
    let so = unaddressable t c.args.at.period c.args.at.representation (capacity c.args.runs.now) q known.refusal known.value timed (rw c.in_default.is at c.address.ensures) in
    let clear = c.clear-in_default.ensures in
    record {
      answer = so.answer';
      first = so.first;
      runs = record {
        held = clear.held ∙ so.runs';
        clean = clear.clean;
        capacity = clear.capacity ∙ c.give.ensures.runs.capacity ∙ c.clear.ensures.capacity;
        lent = clear.lent ∙ c.give.ensures.runs.lent ∙ c.clear.ensures.lent;
      };
      sum = tt;
      whole = tt;
    }

pub returns : goal.returns
returns c =
    let t = c.args.tree.now in
    let i = c.args.at.period in
    let j = c.args.at.representation in
    let q = c.in_ok-prepared.prepared in
    let known = c.in_ok-prepared.ensures in
    let timed : first_of (on timing t q (capacity c.args.runs.now)) ≡ None = subst (λ n. first_of (on timing t q n) ≡ None) c.clear.ensures.capacity c.in_ok-kind.ensures.refusal in
    let addressed = c.in-Some.ensures in
    let runs = held c.give.new.runs in
    let plan = c.plan_of.result in
    let fit : broken plan.parts.template.now ≡ false = ap (λ (v : Values). broken v.texts.template) c.plan_of.ensures ∙ ap (λ (x : Texts). broken x.template) addressed.1 ∙ media_whole t.manifest.now t.elements.now t.attributes.now i j known.refusal q.chosen in
    let values = c.plan_of.ensures ∙ ap (values_with q c.in_ok-kind.kind) addressed.1 ∙ ap (λ k. values_with q k (on texts_by t q)) c.in_ok-kind.ensures.kind in
    let so = accepted t i j (capacity c.args.runs.now) q known.refusal known.value timed addressed.0 _ values in
    record {
      answer = so.answer';
      first = so.first;
      runs = record {
        held = c.give.ensures.runs.held ∙ ap (λ o. on leaving t o (on runs_by t q)) c.in_ok-kind.ensures.refusal ∙ so.runs';
        clean = c.give.ensures.runs.clean;
        capacity = c.give.ensures.runs.capacity ∙ c.clear.ensures.capacity;
        lent = c.give.ensures.runs.lent ∙ c.clear.ensures.lent;
      };
      sum = adds_up (values_of plan) runs;
      whole = ap (λ b. unless b (given_by plan.kind plan.first plan.period runs)) fit ∙ subst (λ (v : Values). given_by v.kind v.first v.period runs ≡ defined_by v.kind v.first v.period runs) (sym c.plan_of.ensures) c.in_ok-kind.ensures.whole;
    }
