-- The number that is read is the whole number of the range.
use Rattle.std.proofs.Common.{◌≤◌, sym, arith, rules}
use Rattle.values.proofs.Numbers.{all_digits}
use Rattle.values.proofs.Wholes.{complete}
use Rattle.values.proofs.whole.Goals as goal

pub returns-in-Ok-clause-sound : goal.returns-in-Ok-clause-sound
returns-in-Ok-clause-sound c =
    let l : c.args.low ≤ c.in-Ok.n = search rules in
    let h : c.in-Ok.n ≤ c.args.high = search rules in
    (record { some = search rules; all = all_digits c.args.text.now (omega (arith, c.digits_end.ensures.value)); value = omega (arith, c.in-Ok.ensures) }, l, h)

pub returns-in-Ok-clause-computed : goal.returns-in-Ok-clause-computed
returns-in-Ok-clause-computed c = let w = returns-in-Ok-clause-sound c in sym (complete c.args.low c.args.high c.args.text.now c.in-Ok.n w.0 w.1 w.2)
