use Rattle.std.proofs.Common.{◌-◌, mul-le-mul_left, arith}
use Rattle.std.proofs.Math.Nat.{pow-le-pow_right}
use Rattle.values.proofs.scaled.Goals as goal

pub returns-clause-bound : goal.returns-clause-bound
returns-clause-bound c = rw c.pow.ensures (mul-le-mul_left c.args.n (pow-le-pow_right {n = 10} (omega arith) {i = 4 - c.args.len} {j = 2} (omega arith)))
