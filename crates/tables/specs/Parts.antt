-- The bytes of a part of the manifest, and names told by them.
use Rattle.std.specs.Prelude.{ℕ, ◌+◌, Bool, cond, ◌&&◌, List, [], length, take, drop, ◌==◌, nat_le}
use Rattle.std.specs.Str.{bytes_eq}
use Rattle.tables.specs.declared.manifest.Attribute.{Attribute}
use Rattle.tables.specs.declared.span.Span.{Span}

-- a part that reaches past the bytes is empty
abbrev pub part : List ℕ → Span → List ℕ
part bytes s = cond (nat_le (s.at + s.len) (length bytes)) (take s.len (drop s.at bytes)) []

-- whether a is an attribute of the element in the row e with the name n
abbrev pub is_of : List ℕ → ℕ → List ℕ → Attribute → Bool
is_of m e n a = a.element == e && bytes_eq (part m a.name) n
