-- The classes of bytes by their names in the code.
use Rattle.std.specs.Prelude.{ℕ, Bool, ◌==◌}
use Rattle.reader.specs.Bytes.{blank, begins, goes, quotes, visible, ascii, textual, plain}
use Rattle.reader.specs.Machine.{passes}
use Rattle.reader.specs.declared.lexer.class.Class.{Class}
use Rattle.reader.specs.declared.lexer.class.Class.TheVariants.{Blank, First, Name, Quote, Visible, Ascii, Text, Loose, Value, Only}

abbrev pub holds : Class → ℕ → Bool
holds Blank = blank
holds First = begins
holds Name = goes
holds Quote = quotes
holds Visible = visible
holds Ascii = ascii
holds Text = textual
holds (Loose inside) = passes inside
holds (Value q) = plain q
holds (Only w) = λ b. b == w
