-- The sums of a manifest, from those of its bottom timeline.
use Rattle.std.proofs.Common.{◌≡◌, List, ap, ◌∙◌, subst}
use Rattle.presentation.specs.Sums.{lengths, Accounts}
use Rattle.presentation.specs.declared.sums.Sums.{Sums}
use Rattle.resolve.specs.Values.{Values, bottom_by}
use Rattle.resolve.proofs.Written.{written_of}
use Rattle.timeline.specs.declared.run.Run.{Run}
use Rattle.timeline.specs.declared.segment.Segment.{Segment}
use Rattle.player.specs.Opening.{SumsOf}

pub sums_are : (v : Values) (runs : List Run) (bottom : List Segment) (s : Sums) → bottom ≡ bottom_by v runs → Accounts bottom v.offset v.period s → SumsOf v runs s
sums_are v runs bottom s is parts = record {
  parts = subst (λ xs. Accounts xs v.offset v.period s) is parts;
  written = parts.written ∙ ap lengths is ∙ written_of v.kind v.first v.period runs;
}
