-- The seconds have one to three decimals.
use Rattle.std.proofs.Common.{refl}
use Rattle.values.proofs.Parts.{pointed}
use Rattle.values.proofs.seconds.Goals as goal

pub returns : goal.returns
returns c =
    let f = pointed c.args.text.now c.in_ok-point.point.rest.now c.in_ok-decimals.decimals.rest.now c.in_ok-point.point.value c.in_ok-decimals.decimals.value _ c.scaled.result c.in_default.ensures c.in_ok-point.ensures c.in_ok-decimals.ensures refl c.if-len-gt4.false c.scaled.ensures.value in
    record { read = f.0; few = f.1 }
