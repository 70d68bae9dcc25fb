-- The worked cases as one list.
use Rattle.std.specs.Prelude.{◌≡◌, ℕ, ◌+◌, false, List, [], ◌∷◌, length, Ok, Err, codes, sum_by, slice_index_or}
use Rattle.address.specs.Expansion.{expansion}
use Rattle.expand.specs.declared.fault.RunFault.TheVariants.{Misplaced}
use Rattle.head.specs.Heads.{Way, to, refused, sought}
use Rattle.head.specs.declared.fault.HeadFault.TheVariants.{NoneCovers}
use Rattle.player.specs.Opening.{opened, opened_runs}
use Rattle.player.specs.declared.fault.OpenFault.TheVariants.{Resolve}
use Rattle.presentation.specs.Sums.{lengths}
use Rattle.reader.specs.Machine.{accepted, reading}
use Rattle.resolve.specs.Values.{Values, bottom_by, timeline_by, address_by, written_by}
use Rattle.resolve.specs.declared.fault.ResolveFault.TheVariants.{Runs}
use Rattle.rules.specs.Findings.{finding, findings}
use Rattle.rules.specs.declared.rule.Rule.TheVariants.{DynamicUnanchored, StaticTimeShift, StaticUnbounded, NoDurationNorUpdate, NoMaxSegmentDuration, DurationAndTimeline, InitializationVaries, MediaBroken, AudioWithoutLanguage}
use Rattle.tables.specs.declared.manifest.Attribute.{Attribute}
use Rattle.tables.specs.declared.manifest.Element.{Element}
use Rattle.template.specs.Reading.{stands}
use Rattle.template.specs.declared.Identifier.TheVariants.{Number}
use Rattle.timeline.specs.Segments.{blank}
use Rattle.timeline.specs.Theorems.{part_before, part_after}
use Rattle.timeline.specs.declared.run.Run.{Run}
use Rattle.cases.specs.Manifests.{sample, dynamic, untyped, audio, endless, overlapping, abutting}

-- the manifest is accepted for its first Period's first Representation, with tables of 1,024 rows, and P holds of its values and runs
pub record Accepted (m : List ℕ) (P : Values → List Run → Type 0) : Type 0 where
  pub values : Values
  pub runs : List Run
  pub opens : opened m 1024 1024 1024 0 0 ≡ Ok values
  pub fills : opened_runs m 1024 1024 1024 0 0 ≡ runs
  pub holds : P values runs

-- where a seek goes on the manifest's timeline
abbrev pub sought_in : ℕ → Values → List Run → Way
sought_in ms v runs = sought (timeline_by v runs) v.timescale ms

-- the manifest is read, and P holds of its rows
pub record Rows (m : List ℕ) (P : List Element → List Attribute → Type 0) : Type 0 where
  pub elements : List Element
  pub attributes : List Attribute
  pub reads : reading m 1024 1024 ≡ accepted elements attributes
  pub holds : P elements attributes

-- 45 listed, 5 before the offset, 10 after the Period's end, 60 written
abbrev pub Sums : Values → List Run → Type 0
Sums v runs =
    (lengths (timeline_by v runs) ≡ 45)
    × (sum_by (part_before v.offset) (bottom_by v runs) ≡ 5)
    × (sum_by (part_after (v.offset + v.period)) (bottom_by v runs) ≡ 10)
    × (written_by v.kind v.period runs ≡ 60)

-- four segments in a Period of 10,000 ticks, the last of length 1,000
abbrev pub Four : Values → List Run → Type 0
Four v runs = (v.period ≡ 10000) × (length (timeline_by v runs) ≡ 4) × ((slice_index_or (timeline_by v runs) 3 blank).length ≡ 1000)

abbrev pub Worked : Type 0
Worked =
    Accepted sample Sums
    -- a seek of 3,499 ms gives place 1; 3,500, in the gap, and 5,000, at the end, give 41
    × Accepted sample (λ v runs. sought_in 3499 v runs ≡ to 1)
    × Accepted sample (λ v runs. sought_in 3500 v runs ≡ refused NoneCovers)
    × Accepted sample (λ v runs. sought_in 5000 v runs ≡ refused NoneCovers)
    -- the dynamic manifest breaks F1, F4 and F5
    × Rows dynamic (λ es xs. findings dynamic es xs ≡ finding DynamicUnanchored 0 ∷ finding NoDurationNorUpdate 0 ∷ finding NoMaxSegmentDuration 0 ∷ [])
    -- one without a type is static and breaks F2 to F5; the audio set breaks F9, and its template F6, F7 and F8
    × Rows untyped (λ es xs. findings untyped es xs ≡ finding StaticTimeShift 0 ∷ finding StaticUnbounded 0 ∷ finding NoDurationNorUpdate 0 ∷ finding NoMaxSegmentDuration 0 ∷ [])
    × Rows audio (λ es xs. findings audio es xs ≡ finding AudioWithoutLanguage 0 ∷ finding DurationAndTimeline 1 ∷ finding InitializationVaries 1 ∷ finding MediaBroken 1 ∷ [])
    -- a number with a tag
    × (expansion (codes "$Number%05d$") [] 0 42 0 ≡ codes "00042")
    × Accepted endless Four
    -- an S that starts before the end of the one before it, and one that starts there
    × (opened overlapping 1024 1024 1024 0 0 ≡ Err (Resolve (Runs Misplaced)))
    × Accepted abutting (λ v runs. length (timeline_by v runs) ≡ 2)
    -- Time is the start below, before the offset is taken off, and an escaped name is no identifier
    × Accepted sample (λ v runs. address_by v runs 1 ≡ codes "http://h/v1/20")
    × (stands Number (codes "$$Number$$") ≡ false)
