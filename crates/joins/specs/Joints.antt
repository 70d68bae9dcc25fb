-- Which parts of an address cannot be joined.
use Rattle.std.specs.Prelude.{ℕ, Bool, false, not, ◌||◌, List, [], ◌∷◌, ◌==◌}
use Rattle.std.specs.List.{list_any}
use Rattle.address.specs.Joining.{from_last, parts_of}
use Rattle.address.specs.declared.Parts.{Parts}

-- space, tab, CR and LF
abbrev pub blank : ℕ → Bool
blank b = b == 32 || (b == 9 || (b == 13 || b == 10))

abbrev pub some_blank : List ℕ → Bool
some_blank text = list_any blank text

-- whether the last byte is '/'; an empty text has none
abbrev pub ends_in_slash : List ℕ → Bool
ends_in_slash [] = false
ends_in_slash (b ∷ []) = b == 47
ends_in_slash (b ∷ c ∷ bs) = ends_in_slash (c ∷ bs)

-- whether the first byte is '/'
abbrev pub rooted : List ℕ → Bool
rooted [] = false
rooted (b ∷ bs) = b == 47

-- a base URL with a blank, or that does not end in '/'
abbrev pub unfit : List ℕ → Bool
unfit base = some_blank base || not (ends_in_slash base)

-- whether one of the parts in front of the last is an unfit base URL
abbrev pub some_unfit : List (List ℕ) → Bool
some_unfit [] = false
some_unfit (part ∷ []) = false
some_unfit (part ∷ next ∷ parts) = unfit part || some_unfit (next ∷ parts)

-- whether one of the parts begins with '/'
abbrev pub some_rooted : List (List ℕ) → Bool
some_rooted [] = false
some_rooted (part ∷ parts) = rooted part || some_rooted parts

-- whether one of the parts behind the first begins with '/'
abbrev pub later_rooted : List (List ℕ) → Bool
later_rooted [] = false
later_rooted (part ∷ parts) = some_rooted parts

-- parts that cannot be joined, from the first one that is joined on; the last one is the expanded template
abbrev pub misjoined : List (List ℕ) → Bool
misjoined parts = some_unfit (from_last parts) || later_rooted (from_last parts)

-- whether the address of a segment with the number and the time cannot be made
abbrev pub unjoinable : Parts → ℕ → ℕ → Bool
unjoinable p number time = misjoined (parts_of p number time)
