-- The timeline of a plan and its runs, by the plan's values.
use Rattle.std.proofs.Common.{◌≡◌, ℕ, ◌+◌, ◌<◌, List, length, get_or, sym, ap, ◌∙◌, subst}
use Rattle.bottom.specs.Placing.{address_at}
use Rattle.head.specs.Sequences.{Output, Replays}
use Rattle.head.specs.declared.step.Call.{Call}
use Rattle.head.specs.declared.step.Step.{Step}
use Rattle.presentation.specs.Lists.{bottom_of, timeline_of, addresses_of}
use Rattle.presentation.specs.declared.plan.Plan.{Plan}
use Rattle.resolve.proofs.Addresses.{same_address}
use Rattle.resolve.specs.Values.{values_of, bottom_by, Whole, timeline_by, address_by}
use Rattle.timeline.specs.Layers.{shifted, cut_off}
use Rattle.timeline.specs.Segments.{blank, ended_by}
use Rattle.timeline.specs.declared.run.Run.{Run}
use Rattle.timeline.specs.declared.segment.Segment.{Segment}
use Rattle.player.proofs.Agreeing.{same_replays}

-- the rows are the runs, of which the bottom timeline is whole
module _ (p : Plan) (rows runs : List Run) (are : rows ≡ runs) (whole : Whole p runs) where
  pub bottom_is : bottom_of p rows ≡ bottom_by (values_of p) runs
  bottom_is = ap (bottom_of p) are ∙ whole

  timeline_is : timeline_of p rows ≡ timeline_by (values_of p) runs
  timeline_is = ap (λ ys. cut_off p.period (shifted p.offset ys)) bottom_is

  address_is : (place : ℕ) → addresses_of p rows place ≡ address_by (values_of p) runs place
  address_is place =
      let xs = bottom_by (values_of p) runs in
      let s = get_or xs (ended_by xs p.offset + place) blank in
      ap (λ ys. address_at p.parts ys (ended_by ys p.offset + place)) bottom_is ∙ same_address p.parts s.number s.start

  -- a replay on the timeline that is laid out
  module _ (xs : List Segment) (a : ℕ → List ℕ) (list : xs ≡ timeline_of p rows) (address : (place : ℕ) → place < length (timeline_of p rows) → a place ≡ addresses_of p rows place) where
    pub replays_laid : (timescale : ℕ) (calls : List Call) (steps steps' : List Step) (o o' : Output) (n : ℕ) → Replays xs a timescale calls steps steps' o o' n → Replays (timeline_by (values_of p) runs) (address_by (values_of p) runs) timescale calls steps steps' o o' n
    replays_laid timescale calls steps steps' o o' n r =
        let is = list ∙ timeline_is in
        same_replays (timeline_by (values_of p) runs) a (address_by (values_of p) runs)
        (λ place h. address place (subst (λ ys. place < length ys) (sym timeline_is) h) ∙ address_is place)
        timescale calls steps steps' o o' n
        (subst (λ ys. Replays ys a timescale calls steps steps' o o' n) is r)
