use Rattle.std.proofs.Common.{sym, ap, ◌∙◌}
use Rattle.std.specs.Option.{option_map}
use Rattle.resolve.proofs.Addresses.{joinable}
use Rattle.resolve.proofs.resolving.address.Goals as goal

pub returns : goal.returns
returns c =
    let media = sym c.templated.ensures ∙ ap (option_map (λ x. x.now)) c.in_ok-media.was in
    rw c.then_some.ensures (joinable c.args.tree.now c.args.prepared.now c.in_ok-media.media.now media c.parts_of-parts.result c.parts_of-parts.ensures (sym c.if-lacks_time.ensures) c.requires c.joins.result c.joins.ensures.value)
