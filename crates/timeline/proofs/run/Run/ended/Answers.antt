use Rattle.std.proofs.Common.{arith}
use Rattle.timeline.proofs.Walks.{ended_run}
use Rattle.timeline.proofs.run.Run.ended.Goals as goal

pub returns : goal.returns
returns c number = grind (arith, ended_run number c.args.self.now c.args.tick c.requires)
