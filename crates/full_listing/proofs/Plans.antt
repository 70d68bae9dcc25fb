-- The lines of a plan, by its values.
use Rattle.std.proofs.Common.{◌≡◌, ℕ, ◌+◌, List, get_or, Some, None, Option, refl, ap, ◌∙◌, Bor}
use Rattle.std.specs.Option.{option_map}
use Rattle.address.specs.Joining.{joined, part_in, parts_of, address_of}
use Rattle.address.specs.declared.Parts.{Parts}
use Rattle.presentation.specs.Lists.{bottom_of, timeline_of, addresses_of}
use Rattle.presentation.specs.declared.plan.Plan.{Plan}
use Rattle.resolve.proofs.Addresses.{same_address}
use Rattle.resolve.specs.Values.{texts_of, part_by, parts_by, values_of, bottom_by, Whole, timeline_by, address_by}
use Rattle.timeline.specs.Layers.{shifted, cut_off}
use Rattle.timeline.specs.Segments.{blank, ended_by}
use Rattle.timeline.specs.declared.run.Run.{Run}
use Rattle.timeline.specs.declared.segment.Segment.{Segment}
use Rattle.full_listing.specs.Lines.{timeline_lines}
use Rattle.full_listing.proofs.Lines.{timelines_same}

module _ (p : Plan) (runs : List Run) (whole : Whole p runs) where
  address_same : (place : ℕ) → addresses_of p runs place ≡ address_by (values_of p) runs place
  address_same place =
      let at = λ (xs : List Segment). get_or xs (ended_by xs p.offset + place) blank in
      ap (λ xs. address_of p.parts (at xs).number (at xs).start) whole
      ∙ same_address p.parts (at (bottom_by (values_of p) runs)).number (at (bottom_by (values_of p) runs)).start

  pub plan_lines : timeline_lines (timeline_of p runs) (addresses_of p runs) ≡ timeline_lines (timeline_by (values_of p) runs) (address_by (values_of p) runs)
  plan_lines =
      timelines_same (addresses_of p runs) (address_by (values_of p) runs) (timeline_of p runs) (timeline_by (values_of p) runs)
      (ap (λ xs. cut_off p.period (shifted p.offset xs)) whole) (λ i h. address_same i)
