use Rattle.std.proofs.Common.{false, codes, refl}
use Rattle.std.proofs.lemmas.Bool.{or_from}
use Rattle.tree.specs.Questions.{value_of}
use Rattle.values.proofs.Presence.{read_ok}
use Rattle.values.specs.Duration.{duration_of}
use Rattle.values.specs.Given.{duration}
use Rattle.periods.proofs.read_period.Goals as goal

pub returns : goal.returns
returns c =
    let t = c.args.tree.now in
    let start = value_of t.manifest.now t.attributes.now c.args.row (codes "start") in
    let length = value_of t.manifest.now t.attributes.now c.args.row (codes "duration") in
    let first = read_ok duration_of duration (λ _. refl) _ start _ c.attribute.ensures.value c.in_ok-duration_if.ensures in
    let second = read_ok duration_of duration (λ _. refl) _ length _ c.attribute-2.ensures.value c.in_ok-duration_if-2.ensures in
    or_from _ _ first (or_from _ false second refl)
