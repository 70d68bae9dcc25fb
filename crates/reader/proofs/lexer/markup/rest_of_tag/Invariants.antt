use Rattle.std.proofs.Common.{◌≡◌, ◌-◌, false, length}
use Rattle.tables.specs.declared.span.Span.{Span}
use Rattle.reader.specs.Cursor.{Onward}
use Rattle.reader.specs.Machine.{tag}
use Rattle.reader.specs.Rows.{documented, after, Attributed}
use Rattle.reader.proofs.lexer.markup.rest_of_tag.Given as goal

abbrev pub invariant-parts : goal.invariant-parts
invariant-parts l = record {
  onward : Onward l.initial.reader l.reader;
  attributed : Attributed l.initial.rows l.rows;
  goes : (e : Span) → after l.initial.reader l.initial.rows (tag (documented l.initial.rows) e false) ≡ after l.reader l.rows (tag (documented l.rows) e false);
}

abbrev pub decreases-parts : goal.decreases-parts
decreases-parts l = length l.reader.src.now - l.reader.pos
