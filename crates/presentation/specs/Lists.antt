-- The segments and addresses of a manifest's timeline, by what it is made from.
use Rattle.std.specs.Prelude.{ℕ, ◌+◌, List}
use Rattle.template.specs.Reading.{broken}
use Rattle.timeline.specs.Bottoms.{of_written, of_even, sound_written, sound_even}
use Rattle.timeline.specs.Evenly.{even_list}
use Rattle.timeline.specs.Layers.{shifted, cut_off}
use Rattle.timeline.specs.Runs.{written_list}
use Rattle.timeline.specs.Segments.{ended_by, Sound}
use Rattle.timeline.specs.declared.run.Run.{Run}
use Rattle.timeline.specs.declared.segment.Segment.{Segment}
use Rattle.bottom.specs.Placing.{unless, address_at}
use Rattle.presentation.specs.declared.laid.Bottom.{Bottom}
use Rattle.presentation.specs.declared.laid.Bottom.TheVariants.{Written as OfRuns, Even as OfDuration}
use Rattle.presentation.specs.declared.plan.Kind.{Kind}
use Rattle.presentation.specs.declared.plan.Kind.TheVariants.{Written, Even}
use Rattle.presentation.specs.declared.plan.Plan.{Plan}

-- the segments of the S elements, which the runs write out, or of the even duration
abbrev pub given_by : Kind → ℕ → ℕ → List Run → List Segment
given_by Written first period runs = written_list first runs
given_by (Even duration) first period runs = even_list first duration period

-- the bottom timeline of a plan with its runs
abbrev pub bottom_of : Plan → List Run → List Segment
bottom_of p runs = unless (broken p.parts.template.now) (given_by p.kind p.first p.period runs)

-- the manifest's timeline: a cut at the Period's length over a shift by the offset over the bottom timeline
abbrev pub timeline_of : Plan → List Run → List Segment
timeline_of p runs = cut_off p.period (shifted p.offset (bottom_of p runs))

-- the address of a place of it: that of the segment below
abbrev pub addresses_of : Plan → List Run → ℕ → List ℕ
addresses_of p runs place = address_at p.parts (bottom_of p runs) (ended_by (bottom_of p runs) p.offset + place)

-- the segments of a bottom timeline of either kind
abbrev pub of_bottom : Bottom → List Segment
of_bottom (OfRuns t) = of_written t
of_bottom (OfDuration e) = of_even e

pub sound_bottom : (b : Bottom) → Sound (of_bottom b)
sound_bottom (OfRuns t) = sound_written t
sound_bottom (OfDuration e) = sound_even e
