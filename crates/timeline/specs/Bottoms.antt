-- The lists of the bottom timelines, by what they hold.
use Rattle.std.specs.Prelude.{List}
use Rattle.timeline.specs.declared.segment.Segment.{Segment}
use Rattle.timeline.specs.declared.written.Written.{Written}
use Rattle.timeline.specs.declared.even.Even.{Even}
use Rattle.timeline.specs.Segments.{Sound}
use Rattle.timeline.specs.Runs.{run_list, expanded}
use Rattle.timeline.specs.Laws.Expands.{sound_expanded}
use Rattle.timeline.specs.Laws.Evens.{sound_run}

abbrev pub of_written : Written → List Segment
of_written t = expanded t.first t.runs.now

pub sound_written : (t : Written) → Sound (of_written t)
sound_written t = sound_expanded t.first t.runs.now t.fair

abbrev pub of_even : Even → List Segment
of_even e = run_list e.first e.run

pub sound_even : (e : Even) → Sound (of_even e)
sound_even e = sound_run e.first e.run e.few e.long e.numbers e.within
