use Rattle.std.proofs.Common.{◌≡◌, ◌-◌, length}
use Rattle.reader.specs.Machine.{outside}
use Rattle.reader.specs.Rows.{documented, after, Gained}
use Rattle.reader.proofs.lexer.markup.read_rows.Given as goal

abbrev pub invariant-markup : goal.invariant-markup
invariant-markup l = record {
  gained : Gained l.initial.rows l.rows;
  goes : after l.initial.reader l.initial.rows (outside (documented l.initial.rows)) ≡ after l.reader l.rows (outside (documented l.rows));
}

abbrev pub decreases-markup : goal.decreases-markup
decreases-markup l = length l.reader.src.now - l.reader.pos
