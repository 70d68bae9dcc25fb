use Rattle.std.proofs.Common.{Ok, Err, ◌∙◌}
use Rattle.reader.specs.Machine.{reading}
use Rattle.resolve.specs.Values.{values_of}
use Rattle.std.proofs.lemmas.Result.{err_from_is_err_and}
use Rattle.tables.specs.Rows.{held, capacity}
use Rattle.player.proofs.Opened.{opens}
use Rattle.player.proofs.screening.open.Goals as goal

pub returns-in_err-resolve : goal.returns-in_err-resolve
returns-in_err-resolve c =
    let m = c.args.manifest.now in
    let read = c.in_ok-read.ensures in
    let done = c.in_err-resolve.ensures in
    let rows = c.clear.ensures.capacity in
    let opened = opens m c.of.result.manifest.now (capacity c.args.runs.now) (capacity c.clear.new.self) c.args.at.period c.args.at.representation c.of.result.elements.now c.of.result.attributes.now c.of.ensures.manifest rows (Err c.in_err-resolve.field-0.0) (held c.resolve.new.runs) c.in_ok-read.field-0 (reading m (capacity c.args.rows.now.elements) (capacity c.args.rows.now.attributes)) read.answer (c.of.ensures.elements ∙ read.tables.elements.held) (c.of.ensures.attributes ∙ read.tables.attributes.held) done.answer done.runs.held in
    let e = err_from_is_err_and c.from_residual-in_err-resolve.result c.from_residual-in_err-resolve.ensures.1 in
    record {
      answer = rw (e.1, e.2) opened.0;
      left = record { rows = read.tables; runs = record { held = opened.1; clean = done.runs.clean; capacity = done.runs.capacity ∙ rows; lent = done.runs.lent ∙ c.clear.ensures.lent } };
      whole = rw e.1 tt;
    }

pub returns : goal.returns
returns c =
    let m = c.args.manifest.now in
    let read = c.in_ok-read.ensures in
    let done = c.in_ok-resolve.ensures in
    let rows = c.clear.ensures.capacity in
    let opened = opens m c.of.result.manifest.now (capacity c.args.runs.now) (capacity c.clear.new.self) c.args.at.period c.args.at.representation c.of.result.elements.now c.of.result.attributes.now c.of.ensures.manifest rows (Ok (values_of c.in_ok-resolve.field-0)) (held c.resolve.new.runs) c.in_ok-read.field-0 (reading m (capacity c.args.rows.now.elements) (capacity c.args.rows.now.attributes)) read.answer (c.of.ensures.elements ∙ read.tables.elements.held) (c.of.ensures.attributes ∙ read.tables.attributes.held) done.answer done.runs.held in
    record {
      answer = opened.0;
      left = record { rows = read.tables; runs = record { held = opened.1; clean = done.runs.clean; capacity = done.runs.capacity ∙ rows; lent = done.runs.lent ∙ c.clear.ensures.lent } };
      whole = done.whole;
    }
