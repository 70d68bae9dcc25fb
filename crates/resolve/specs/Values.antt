-- The values that a manifest's timeline is made from, and what a plan holds of them.
use Rattle.std.specs.Prelude.{◌≡◌, ℕ, ◌+◌, ◌*◌, List, [], ◌∷◌, ◌++◌, Some, None, Ok, Err, sum_by, Option, Result, slice_index_or}
use Rattle.std.specs.Option.{option_map}
use Rattle.address.specs.Expansion.{expansion}
use Rattle.address.specs.Joining.{joined}
use Rattle.address.specs.declared.Parts.{Parts}
use Rattle.presentation.specs.Lists.{bottom_of}
use Rattle.presentation.specs.Sums.{lengths}
use Rattle.presentation.specs.declared.plan.Kind.{Kind}
use Rattle.presentation.specs.declared.plan.Kind.TheVariants.{Written, Even}
use Rattle.presentation.specs.declared.plan.Plan.{Plan}
use Rattle.timeline.specs.Evenly.{evenly, ceiling}
use Rattle.timeline.specs.Layers.{shifted, cut_off}
use Rattle.timeline.specs.Runs.{expanded}
use Rattle.timeline.specs.Segments.{blank, ended_by}
use Rattle.timeline.specs.Theorems.{part_before, part_after}
use Rattle.timeline.specs.declared.run.Run.{Run}
use Rattle.timeline.specs.declared.segment.Segment.{Segment}
use Rattle.resolve.specs.declared.fault.ResolveFault.{ResolveFault}

-- what addresses are made from: the base URLs of the four levels, the template, and the Representation's id and bandwidth
pub record Texts : Type 0 where
  pub mpd : Option (List ℕ)
  pub period : Option (List ℕ)
  pub set : Option (List ℕ)
  pub representation : Option (List ℕ)
  pub template : List ℕ
  pub id : List ℕ
  pub bandwidth : ℕ

abbrev pub texts_of : Parts → Texts
texts_of p = record {
  mpd = option_map (λ x. x.now) p.mpd;
  period = option_map (λ x. x.now) p.period;
  set = option_map (λ x. x.now) p.set;
  representation = option_map (λ x. x.now) p.representation;
  template = p.template.now;
  id = p.id.now;
  bandwidth = p.bandwidth;
}

-- a base URL as a part; an absent one is no part
abbrev pub part_by : Option (List ℕ) → List (List ℕ)
part_by None = []
part_by (Some text) = text ∷ []

-- the parts of an address that are present, in their order
abbrev pub parts_by : Texts → ℕ → ℕ → List (List ℕ)
parts_by t number time =
    part_by t.mpd ++ (part_by t.period ++ (part_by t.set ++ (part_by t.representation ++ (
    expansion t.template t.id t.bandwidth number time ∷ []))))

-- the values: the period is the Period's length in ticks
pub record Values : Type 0 where
  pub timescale : ℕ
  pub first : ℕ
  pub period : ℕ
  pub offset : ℕ
  pub kind : Kind
  pub texts : Texts

abbrev pub values_of : Plan → Values
values_of p = record {
  timescale = p.timescale;
  first = p.first;
  period = p.period;
  offset = p.offset;
  kind = p.kind;
  texts = texts_of p.parts;
}

-- the bottom timeline: the segments of the runs, one after another, or those of one duration
abbrev pub defined_by : Kind → ℕ → ℕ → List Run → List Segment
defined_by Written first period runs = expanded first runs
defined_by (Even duration) first period runs = evenly first duration (ceiling period duration)

abbrev pub bottom_by : Values → List Run → List Segment
bottom_by v runs = defined_by v.kind v.first v.period runs

-- the plan with its runs has the whole bottom timeline
abbrev pub Whole : Plan → List Run → Type 0
Whole p runs = bottom_of p runs ≡ bottom_by (values_of p) runs

-- the manifest's timeline: a cut at the Period's length over a shift by the offset over the bottom timeline
abbrev pub timeline_by : Values → List Run → List Segment
timeline_by v runs = cut_off v.period (shifted v.offset (bottom_by v runs))

-- the address of a segment of the bottom timeline
abbrev pub address_of : Values → Segment → List ℕ
address_of v s = joined (parts_by v.texts s.number s.start)

-- the address of a place of the manifest's timeline: that of the segment below
abbrev pub address_by : Values → List Run → ℕ → List ℕ
address_by v runs place = address_of v (slice_index_or (bottom_by v runs) (ended_by (bottom_by v runs) v.offset + place) blank)

-- what the manifest writes: of each S its count times its length, or the count of segments times their duration
abbrev pub written_by : Kind → ℕ → List Run → ℕ
written_by Written period runs = sum_by (λ r. r.count * r.length) runs
written_by (Even duration) period runs = ceiling period duration * duration

-- what is listed and the parts that are cut away, before the offset and after the Period's end, add up to what the manifest writes
abbrev pub AddsUp : Values → List Run → Type 0
AddsUp v runs =
    lengths (timeline_by v runs) + sum_by (part_before v.offset) (bottom_by v runs) + sum_by (part_after (v.offset + v.period)) (bottom_by v runs)
    ≡ written_by v.kind v.period runs

-- an answer by its values
abbrev pub meaning : Result Plan ResolveFault → Result Values ResolveFault
meaning (Ok p) = Ok (values_of p)
meaning (Err e) = Err e

-- the refusal, if there is one
abbrev pub refusal : Result Plan ResolveFault → Option ResolveFault
refusal (Ok p) = None
refusal (Err e) = Some e
