-- The count is one more than the logarithm.
use Rattle.std.proofs.Common.{arith}
use Rattle.output.proofs.Law.{log_count}
use Rattle.output.proofs.count_digits.Goals as goal

pub returns-clause-count : goal.returns-clause-count
returns-clause-count c = log_count c.ilog10.result c.args.n (omega arith) (omega arith) (omega arith)
