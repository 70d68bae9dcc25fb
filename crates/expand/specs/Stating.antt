-- The S elements of a SegmentTimeline, as they are written.
use Rattle.std.specs.Prelude.{ℕ, true, false, List, [], ◌∷◌, ◌++◌, map, pos, codes}
use Rattle.std.specs.Option.{unwrap_or}
use Rattle.tables.specs.declared.manifest.Attribute.{Attribute}
use Rattle.tables.specs.declared.manifest.Element.{Element}
use Rattle.tree.specs.Questions.{value_of, children_of}
use Rattle.values.specs.Given.{present, Asked, whole, repeat}
use Rattle.values.specs.Repeat.{repeat_of}
use Rattle.values.specs.Whole.{whole_in}
use Rattle.expand.specs.declared.stated.Stated.{Stated}

module _ (m : List ℕ) (es : List Element) (xs : List Attribute) where
  -- the S in a row
  abbrev pub stated_at : ℕ → Stated
  stated_at row = record {
    time = present (whole_in 0 9007199254740992) (value_of m xs row (codes "t"));
    length = unwrap_or (present (whole_in 0 9007199254740992) (value_of m xs row (codes "d"))) 0;
    repeat = unwrap_or (present repeat_of (value_of m xs row (codes "r"))) (pos 0);
  }

  -- the rows of the S elements of the SegmentTimeline in a row
  abbrev pub rows_of : ℕ → List ℕ
  rows_of timeline = children_of m es timeline (codes "S")

  abbrev pub stated : ℕ → List Stated
  stated timeline = map stated_at (rows_of timeline)

  -- what is read of one S, and of some: t, d, which must be there, and r
  abbrev pub asked_of : ℕ → List Asked
  asked_of row =
      record { kind = whole 0 9007199254740992; text = value_of m xs row (codes "t"); needed = false }
      ∷ record { kind = whole 0 9007199254740992; text = value_of m xs row (codes "d"); needed = true }
      ∷ record { kind = repeat; text = value_of m xs row (codes "r"); needed = false }
      ∷ []

  abbrev pub asked_by : List ℕ → List Asked
  asked_by [] = []
  asked_by (row ∷ rows) = asked_of row ++ asked_by rows

  -- what is read of all S of the SegmentTimeline in a row
  abbrev pub asked_in : ℕ → List Asked
  asked_in timeline = asked_by (rows_of timeline)
