-- What a start tag and its parts lead to.
use Rattle.std.specs.Prelude.{ℕ, false, None, Some, Option}
use Rattle.tables.specs.declared.span.Span.{Span}
use Rattle.reader.specs.Machine.{Document, State, outside, tag, text, emptied}
use Rattle.reader.specs.declared.lexer.markup.TagEnd.{TagEnd}
use Rattle.reader.specs.declared.lexer.markup.TagEnd.TheVariants.{Open, Empty}

-- the state behind the start tag of e, which ends in '>' or in '/>' before the byte at end
abbrev pub leads : TagEnd → Document → Span → ℕ → State
leads Open d e end = text d e end
leads Empty d e end = outside (emptied d e)

-- the state behind a part of the start tag of e: an attribute, or the tag's end before the byte at end
abbrev pub behind : Option TagEnd → Document → Span → ℕ → State
behind None d e end = tag d e false
behind (Some t) d e end = leads t d e end
