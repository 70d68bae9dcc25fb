-- Questions over the rows of a manifest: names, attributes and children.
use Rattle.std.specs.Prelude.{ℕ, ◌+◌, ◌-◌, Bool, cond, ◌&&◌, List, [], ◌∷◌, length, drop, Some, None, filter, Option, ◌==◌, nat_lt, slice_index_or}
use Rattle.std.specs.List.{range_with_len}
use Rattle.std.specs.Str.{bytes_eq}
use Rattle.tables.specs.Parts.{part, is_of}
use Rattle.tables.specs.Zero.{no_element}
use Rattle.tables.specs.declared.manifest.Attribute.{Attribute}
use Rattle.tables.specs.declared.manifest.Element.{Element}

-- the name of the element in the row e, empty where there is no such row
abbrev pub name_at : List ℕ → List Element → ℕ → List ℕ
name_at m es e = part m (slice_index_or es e no_element).name

-- the text of the element in the row e, empty where there is no such row
abbrev pub text_at : List ℕ → List Element → ℕ → List ℕ
text_at m es e = part m (slice_index_or es e no_element).text

-- the value of the attribute n of the element in the row e: the first of equal ones counts
abbrev pub value_of : List ℕ → List Attribute → ℕ → List ℕ → Option (List ℕ)
value_of m [] e n = None
value_of m (a ∷ rest) e n = cond (is_of m e n a) (Some (part m a.value)) (value_of m rest e n)

-- whether the row x is one of a child of the row e with the name n
abbrev pub is_child : List ℕ → ℕ → List ℕ → Element → Bool
is_child m e n x = x.parent == e && bytes_eq (part m x.name) n

-- the first such row of xs, whose rows are numbered from k on
abbrev pub child_from : List ℕ → ℕ → List ℕ → ℕ → List Element → Option ℕ
child_from m e n k [] = None
child_from m e n k (x ∷ xs) = cond (is_child m e n x) (Some k) (child_from m e n (k + 1) xs)

-- the row of the first child of the row e with the name n: a child is a later row than its parent
abbrev pub child_of : List ℕ → List Element → ℕ → List ℕ → Option ℕ
child_of m es e n = child_from m e n (e + 1) (drop (e + 1) es)

-- whether the row k is that of a child of the row e with the name n
abbrev pub is_child_at : List ℕ → List Element → ℕ → List ℕ → ℕ → Bool
is_child_at m es e n k = nat_lt k (length es) && (nat_lt e k && is_child m e n (slice_index_or es k no_element))

-- the rows from k on, of n rows in all, that pass a test
abbrev pub rows_from : (ℕ → Bool) → ℕ → ℕ → List ℕ
rows_from p n k = filter p (range_with_len k (n - k))

-- the rows of all children of the row e with the name n, in their order
abbrev pub children_of : List ℕ → List Element → ℕ → List ℕ → List ℕ
children_of m es e n = rows_from (is_child_at m es e n) (length es) 0
