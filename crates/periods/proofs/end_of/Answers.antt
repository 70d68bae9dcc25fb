use Rattle.periods.proofs.Ends.{end_next, end_last}
use Rattle.periods.proofs.end_of.Goals as goal

pub returns-in-Some : goal.returns-in-Some
returns-in-Some c =
    let t = c.args.tree.now in
    end_next t.manifest.now t.elements.now t.attributes.now c.args.position c.in-Some.field-0 c.in-Some.ensures c.start_of.result c.start_of.ensures.start

pub returns-in-None : goal.returns-in-None
returns-in-None c =
    let t = c.args.tree.now in
    end_last t.manifest.now t.elements.now t.attributes.now c.args.position c.in-None.ensures c.stated.result c.stated.ensures.value
