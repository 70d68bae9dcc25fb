-- What is put into eight bytes leaves the first ones.
use Rattle.std.proofs.Common.{◌∙◌}
use Rattle.address.specs.Expansion.{given, expanded}
use Rattle.address.proofs.Words.{after_blank}
use Rattle.address.proofs.Texts.{expands}
use Rattle.address.proofs.front.Goals as goal

pub returns : goal.returns
returns c = record {
  text = c.put_pieces.ensures.left ∙ after_blank (expanded c.args.template.now (given c.args.values));
  only = expands (given c.args.values) c.args.template.now;
}
