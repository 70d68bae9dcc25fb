-- When the Periods of a manifest start and how long they last, in milliseconds.
use Rattle.std.specs.Prelude.{ℕ, zero, suc, ◌+◌, ◌-◌, false, cond, List, [], ◌∷◌, ◌++◌, length, Some, None, codes, Option, nat_le, nat_lt, slice_index}
use Rattle.std.specs.Option.{option_or}
use Rattle.std.specs.Bool.{then_some}
use Rattle.tables.specs.declared.manifest.Attribute.{Attribute}
use Rattle.tables.specs.declared.manifest.Element.{Element}
use Rattle.tree.specs.Questions.{value_of, children_of}
use Rattle.values.specs.Duration.{duration_of}
use Rattle.values.specs.Given.{present, Asked, duration}

-- the sum of two numbers that are both there
abbrev pub plus : Option ℕ → Option ℕ → Option ℕ
plus None b = None
plus (Some a) None = None
plus (Some a) (Some b) = Some (a + b)

-- from a start to an end: none where one is wanting, or the end lies before the start
abbrev pub lasting : Option ℕ → Option ℕ → Option ℕ
lasting None e = None
lasting (Some s) None = None
lasting (Some s) (Some e) = then_some (nat_le s e) (e - s)

module _ (m : List ℕ) (es : List Element) (xs : List Attribute) where
  -- the rows of the Periods, in their order
  abbrev pub periods : List ℕ
  periods = children_of m es 0 (codes "Period")

  -- the row of the Period at a position
  abbrev pub period_at : ℕ → ℕ
  period_at i = slice_index periods i

  -- the start and the duration that it states
  abbrev pub stated_start : ℕ → Option ℕ
  stated_start i = present duration_of (value_of m xs (period_at i) (codes "start"))

  abbrev pub stated_duration : ℕ → Option ℕ
  stated_duration i = present duration_of (value_of m xs (period_at i) (codes "duration"))

  -- where a Period begins that states no start: the first at 0, any other at the start before it plus the duration before it
  abbrev pub following : ℕ → Option ℕ
  following zero = Some 0
  following (suc i) = plus (option_or (stated_start i) (following i)) (stated_duration i)

  abbrev pub start_of : ℕ → Option ℕ
  start_of i = option_or (stated_start i) (following i)

  -- a Period ends where the next one starts, and the last one with the presentation
  abbrev pub end_of : ℕ → Option ℕ
  end_of i = cond (nat_lt (i + 1) (length periods)) (start_of (i + 1)) (present duration_of (value_of m xs 0 (codes "mediaPresentationDuration")))

  -- how long the Period at a position lasts: none where there is no such Period, a start is wanting, or it would end before it starts
  abbrev pub length_of : ℕ → Option ℕ
  length_of i = cond (nat_lt i (length periods)) (lasting (start_of i) (end_of i)) None

  -- what is read of one Period, and of some
  abbrev pub asked_of : ℕ → List Asked
  asked_of row =
      record { kind = duration; text = value_of m xs row (codes "start"); needed = false }
      ∷ record { kind = duration; text = value_of m xs row (codes "duration"); needed = false }
      ∷ []

  abbrev pub asked_by : List ℕ → List Asked
  asked_by [] = []
  asked_by (row ∷ rows) = asked_of row ++ asked_by rows
