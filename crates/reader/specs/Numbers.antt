-- The numbers by which the refusals of reading are known.
use Rattle.std.specs.Prelude.{ℕ}
use Rattle.reader.specs.declared.fault.ReadRefusal.{ReadRefusal}
use Rattle.reader.specs.declared.fault.ReadRefusal.TheVariants.{TooLong, Grammar, TooDeep, ClosingName, Ampersand, ElementsFull, AttributesFull, AttributeTwice}

abbrev pub number : ReadRefusal → ℕ
number TooLong = 10
number Grammar = 11
number TooDeep = 12
number ClosingName = 13
number Ampersand = 14
number ElementsFull = 15
number AttributesFull = 16
number AttributeTwice = 17
