-- The values of a manifest in the order in which they are read, and what they are.
use Rattle.std.specs.Prelude.{ℕ, ◌+◌, ◌≤◌, true, false, List, [], ◌∷◌, ◌++◌, take, IfSome, Some, None, codes, Option}
use Rattle.std.specs.Option.{unwrap_or}
use Rattle.chosen.specs.Choosing.{templated, timeline_in}
use Rattle.chosen.specs.declared.Chosen.{Chosen}
use Rattle.expand.specs.Stating.{asked_in}
use Rattle.periods.specs.Starts.{periods, asked_by as periodsAsked}
use Rattle.tables.specs.declared.manifest.Attribute.{Attribute}
use Rattle.tables.specs.declared.manifest.Element.{Element}
use Rattle.tree.specs.Questions.{value_of}
use Rattle.values.specs.Given.{present, Asked, Kind, whole, duration}
use Rattle.values.specs.Whole.{whole_in}
use Rattle.resolve.specs.declared.numbers.Numbers.{Numbers}
use Rattle.resolve.specs.declared.prepared.Prepared.{Prepared}

-- a value that is read if it is there, and one that must be
abbrev pub if_there : Kind → Option (List ℕ) → Asked
if_there kind text = record { kind = kind; text = text; needed = false }

abbrev pub must_be_there : Kind → Option (List ℕ) → Asked
must_be_there kind text = record { kind = kind; text = text; needed = true }

-- what is read of the S elements, if there is a SegmentTimeline
abbrev pub timeline_asked : List ℕ → List Element → List Attribute → Option ℕ → List Asked
timeline_asked m es xs None = []
timeline_asked m es xs (Some timeline) = asked_in m es xs timeline

module _ (m : List ℕ) (es : List Element) (xs : List Attribute) (c : Chosen) where
  -- the texts of the values
  abbrev pub timescale_text : Option (List ℕ)
  timescale_text = templated m es xs c (codes "timescale")

  abbrev pub start_number_text : Option (List ℕ)
  start_number_text = templated m es xs c (codes "startNumber")

  abbrev pub bandwidth_text : Option (List ℕ)
  bandwidth_text = value_of m xs c.representation (codes "bandwidth")

  abbrev pub duration_text : Option (List ℕ)
  duration_text = templated m es xs c (codes "duration")

  abbrev pub offset_text : Option (List ℕ)
  offset_text = templated m es xs c (codes "presentationTimeOffset")

  abbrev pub presentation_text : Option (List ℕ)
  presentation_text = value_of m xs 0 (codes "mediaPresentationDuration")

  -- all that is read, in its order, where the chosen Period is at the position i
  abbrev pub asked : ℕ → List Asked
  asked i =
      if_there (whole 1 10000000) timescale_text
      ∷ if_there (whole 0 4294967295) start_number_text
      ∷ if_there (whole 0 4294967295) bandwidth_text
      ∷ (periodsAsked m es xs (take (i + 2) (periods m es xs))
      ++ (must_be_there duration presentation_text
      ∷ if_there (whole 1 4294967295) duration_text
      ∷ if_there (whole 0 9007199254740992) offset_text
      ∷ timeline_asked m es xs (timeline_in m es xs c)))

  -- the numbers, with the defaults of those that are absent
  abbrev pub numbers : Numbers
  numbers = record {
    timescale = unwrap_or (present (whole_in 1 10000000) timescale_text) 1;
    first = unwrap_or (present (whole_in 0 4294967295) start_number_text) 1;
    bandwidth = unwrap_or (present (whole_in 0 4294967295) bandwidth_text) 0;
    duration = present (whole_in 1 4294967295) duration_text;
    offset = unwrap_or (present (whole_in 0 9007199254740992) offset_text) 0;
  }

-- numbers in their ranges
pub record Bounded (n : Numbers) : Type 0 where
  pub timescale : n.timescale ≤ 10000000
  pub first : n.first ≤ 4294967295
  pub bandwidth : n.bandwidth ≤ 4294967295
  pub duration : IfSome n.duration (λ d. (1 ≤ d) × (d ≤ 4294967295))
  pub offset : n.offset ≤ 9007199254740992

-- the length in ticks of the longest Period, at the finest timescale
abbrev pub longest : ℕ
longest = 1000000000000000

-- numbers in their ranges, and a Period that is not too long
pub record Measured (p : Prepared) : Type 0 where
  pub numbers : Bounded p.numbers
  pub period : p.period ≤ longest
