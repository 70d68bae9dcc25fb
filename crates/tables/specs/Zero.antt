-- Rows and spans by their parts, and the zero rows.
use Rattle.std.specs.Prelude.{ℕ}
use Rattle.tables.specs.declared.manifest.Attribute.{Attribute}
use Rattle.tables.specs.declared.manifest.Element.{Element}
use Rattle.tables.specs.declared.span.Span.{Span}

abbrev pub span : ℕ → ℕ → Span
span a n = record { at = a; len = n }

abbrev pub no_element : Element
no_element = record { name = span 0 0; parent = 0; level = 0; text = span 0 0 }

abbrev pub no_attribute : Attribute
no_attribute = record { element = 0; name = span 0 0; value = span 0 0 }
