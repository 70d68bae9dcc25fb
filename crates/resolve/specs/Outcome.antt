-- What comes of resolving rows: the first refusal that applies, or the values and the runs.
use Rattle.std.specs.Prelude.{◌≡◌, ℕ, ◌+◌, Bool, true, false, cond, not, ◌&&◌, ◌||◌, List, [], ◌∷◌, ◌++◌, length, is_some, Some, None, Ok, Err, codes, Option, Result, MatchResult, nat_lt}
use Rattle.std.specs.Option.{unwrap_or}
use Rattle.std.specs.List.{AllByRecursion}
use Rattle.chosen.specs.Choosing.{is_static, chosen, templated, timeline_in, base_of}
use Rattle.chosen.specs.declared.Chosen.{Chosen}
use Rattle.expand.specs.Expanding.{some, misplaced, runs_of}
use Rattle.expand.specs.Stating.{stated}
use Rattle.expand.specs.declared.fault.RunFault.TheVariants.{Misplaced, RunsFull, TooMany}
use Rattle.expand.specs.declared.stated.Stated.{Stated}
use Rattle.head.specs.Heads.{tick_of}
use Rattle.joins.specs.Joints.{misjoined}
use Rattle.periods.specs.Starts.{length_of}
use Rattle.presentation.specs.declared.plan.Kind.{Kind}
use Rattle.presentation.specs.declared.plan.Kind.TheVariants.{Written, Even}
use Rattle.rules.specs.Findings.{findings}
use Rattle.tables.specs.declared.manifest.Attribute.{Attribute}
use Rattle.tables.specs.declared.manifest.Element.{Element}
use Rattle.template.specs.Reading.{stands}
use Rattle.template.specs.declared.Identifier.TheVariants.{Time}
use Rattle.timeline.specs.Evenly.{ceiling}
use Rattle.timeline.specs.Limits.{too_many}
use Rattle.timeline.specs.Runs.{many}
use Rattle.timeline.specs.declared.run.Run.{Run}
use Rattle.tree.specs.Questions.{value_of}
use Rattle.values.specs.Given.{some_unread}
use Rattle.resolve.specs.Asking.{asked, numbers}
use Rattle.resolve.specs.Values.{Texts, Values, parts_by}
use Rattle.resolve.specs.declared.fault.ResolveFault.{ResolveFault}
use Rattle.resolve.specs.declared.fault.ResolveFault.TheVariants.{RuleBroken, NotStatic, NotFound, Unreadable, NoLength, BothOrNeither, Runs, NoAddress}
use Rattle.resolve.specs.declared.prepared.Prepared.{Prepared}

-- a condition with the refusal that it gives
abbrev pub Condition : Type 0
Condition = Bool × ResolveFault

-- the first refusal whose condition holds
abbrev pub first_of : List Condition → Option ResolveFault
first_of [] = None
first_of (c ∷ cs) = cond c.0 (Some c.1) (first_of cs)

-- the answer is refused by the first condition that holds, and else is none
abbrev pub Judged : {X : Type 0} → List Condition → Result X ResolveFault → Type 0
Judged cs answer = MatchResult answer (λ _. first_of cs ≡ None) (λ e. first_of cs ≡ Some e)

-- e is the refusal of a condition that holds, behind conditions that do not; there is none only where no condition holds
abbrev pub Unmet : Condition → Type 0
Unmet c = c.0 ≡ false

abbrev pub IsFirst : List Condition → Option ResolveFault → Type 0
IsFirst cs None = AllByRecursion Unmet cs
IsFirst cs (Some e) = (before : List Condition) × (after : List Condition) × (cs ≡ before ++ ((true, e) ∷ after)) × AllByRecursion Unmet before

-- whether there are both or neither
abbrev pub alike : Bool → Bool → Bool
alike true b = b
alike false b = not b

-- how the segments are given: a SegmentTimeline writes them, and else they have one duration
abbrev pub kind_of : Option ℕ → Option ℕ → Kind
kind_of (Some timeline) duration = Written
kind_of None duration = Even (unwrap_or duration 0)

-- the offset of the shift: none at an even duration
abbrev pub offset_of : Option ℕ → ℕ → ℕ
offset_of (Some timeline) offset = offset
offset_of None offset = 0

-- how many segments the bottom timeline has
abbrev pub count_by : Kind → ℕ → List Run → ℕ
count_by Written period runs = many runs
count_by (Even duration) period runs = ceiling period duration

-- the values with a kind and the texts
abbrev pub values_with : Prepared → Kind → Texts → Values
values_with p kind texts = record {
  timescale = p.numbers.timescale;
  first = p.numbers.first;
  period = p.period;
  offset = offset_of p.timeline p.numbers.offset;
  kind = kind;
  texts = texts;
}

module _ (m : List ℕ) (es : List Element) (xs : List Attribute) where
  -- the S elements, if there is a SegmentTimeline
  abbrev pub stated_in : Option ℕ → List Stated
  stated_in None = []
  stated_in (Some timeline) = stated m es xs timeline

  -- the chosen rows; where there are none, nothing is asked of them
  abbrev pub chosen_rows : ℕ → ℕ → Chosen
  chosen_rows i j = unwrap_or (chosen m es xs i j) (record { period = 0; set = 0; representation = 0 })

  -- what is known of the Period at the position i and its Representation at the position j before the segments are asked for
  abbrev pub prepared : ℕ → ℕ → Prepared
  prepared i j = record {
    chosen = chosen_rows i j;
    numbers = numbers m es xs (chosen_rows i j);
    period = tick_of (numbers m es xs (chosen_rows i j)).timescale (unwrap_or (length_of m es xs i) 0);
    timeline = timeline_in m es xs (chosen_rows i j);
  }

  -- up to where an S with a repeat count of -1 repeats
  abbrev pub until : Prepared → ℕ
  until p = p.numbers.offset + p.period

  abbrev pub runs_by : Prepared → List Run
  runs_by p = runs_of (until p) 0 (stated_in p.timeline)

  abbrev pub kind_by : Prepared → Kind
  kind_by p = kind_of p.timeline p.numbers.duration

  abbrev pub media_of : Chosen → Option (List ℕ)
  media_of c = templated m es xs c (codes "media")

  -- what the addresses are made from, with a template
  abbrev pub texts_with : Prepared → List ℕ → Texts
  texts_with p template = record {
    mpd = base_of m es xs 0;
    period = base_of m es xs p.chosen.period;
    set = base_of m es xs p.chosen.set;
    representation = base_of m es xs p.chosen.representation;
    template = template;
    id = unwrap_or (value_of m xs p.chosen.representation (codes "id")) [];
    bandwidth = p.numbers.bandwidth;
  }

  abbrev pub texts_by : Prepared → Texts
  texts_by p = texts_with p (unwrap_or (media_of p.chosen) [])

  abbrev pub values_by : Prepared → Values
  values_by p = values_with p (kind_by p) (texts_by p)

  -- a broken rule, another root or type, no such elements, a value that cannot be read, a Period without length
  abbrev pub admitting : ℕ → ℕ → List Condition
  admitting i j =
      (some (findings m es xs), RuleBroken)
      ∷ (not (is_static m es xs), NotStatic)
      ∷ (not (is_some (chosen m es xs i j)), NotFound)
      ∷ []

  abbrev pub preparing : ℕ → ℕ → List Condition
  preparing i j =
      (some_unread (asked m es xs (chosen_rows i j) i), Unreadable)
      ∷ (not (is_some (length_of m es xs i)), NoLength)
      ∷ []

  -- a duration and a SegmentTimeline or neither, S elements that cannot stand so, too few rows for runs, too many segments
  abbrev pub timing : Prepared → ℕ → List Condition
  timing p rows =
      (alike (is_some p.numbers.duration) (is_some p.timeline), BothOrNeither)
      ∷ (is_some p.timeline && (not (some (stated_in p.timeline)) || misplaced (until p) 0 (stated_in p.timeline)), Runs Misplaced)
      ∷ (nat_lt rows (length (stated_in p.timeline)), Runs RunsFull)
      ∷ (too_many p.numbers.first (count_by (kind_by p) p.period (runs_by p)), Runs TooMany)
      ∷ []

  -- no media, the time of segments that have none written, parts that cannot be joined
  abbrev pub unaddressed : Prepared → Bool
  unaddressed p =
      not (is_some (media_of p.chosen))
      || ((not (is_some p.timeline) && stands Time (texts_by p).template)
      || misjoined (parts_by (texts_by p) 0 0))

  abbrev pub addressing : Prepared → List Condition
  addressing p = (unaddressed p, NoAddress) ∷ []

  -- all conditions in their order, where the table of runs has `rows` rows
  abbrev pub conditions : ℕ → ℕ → ℕ → List Condition
  conditions i j rows = admitting i j ++ (preparing i j ++ (timing (prepared i j) rows ++ addressing (prepared i j)))

  -- what comes of them: the first refusal that applies, and else the values
  abbrev pub answering : Option ResolveFault → Prepared → Result Values ResolveFault
  answering None p = Ok (values_by p)
  answering (Some e) p = Err e

  abbrev pub outcome : ℕ → ℕ → ℕ → Result Values ResolveFault
  outcome i j rows = answering (first_of (conditions i j rows)) (prepared i j)

  -- the runs that are left: none after a refusal
  abbrev pub leaving : Option ResolveFault → List Run → List Run
  leaving None runs = runs
  leaving (Some e) runs = []

  abbrev pub runs_left : ℕ → ℕ → ℕ → List Run
  runs_left i j rows = leaving (first_of (conditions i j rows)) (runs_by (prepared i j))
