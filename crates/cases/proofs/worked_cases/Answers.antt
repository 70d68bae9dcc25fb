use Rattle.std.proofs.Common.{◌≡◌, [], ◌∷◌, length, codes, refl}
use Rattle.head.specs.Heads.{to, refused}
use Rattle.head.specs.declared.fault.HeadFault.TheVariants.{NoneCovers}
use Rattle.resolve.specs.Values.{timeline_by, address_by}
use Rattle.rules.specs.Findings.{finding, findings}
use Rattle.rules.specs.declared.rule.Rule.TheVariants.{DynamicUnanchored, StaticTimeShift, StaticUnbounded, NoDurationNorUpdate, NoMaxSegmentDuration, DurationAndTimeline, InitializationVaries, MediaBroken, AudioWithoutLanguage}
use Rattle.cases.specs.Manifests.{dynamic, untyped, audio}
use Rattle.cases.specs.Worked.{Sums, Four, sought_in}
use Rattle.cases.proofs.Found.{sample_accepted, endless_accepted, overlapping_refused, abutting_accepted, dynamic_rows, untyped_rows, audio_rows}
use Rattle.cases.proofs.worked_cases.Goals as goal

pub returns : goal.returns
returns c = (
  sample_accepted Sums (refl, refl, refl, refl),
  sample_accepted (λ v runs. sought_in 3499 v runs ≡ to 1) refl,
  sample_accepted (λ v runs. sought_in 3500 v runs ≡ refused NoneCovers) refl,
  sample_accepted (λ v runs. sought_in 5000 v runs ≡ refused NoneCovers) refl,
  dynamic_rows (λ es xs. findings dynamic es xs ≡ finding DynamicUnanchored 0 ∷ finding NoDurationNorUpdate 0 ∷ finding NoMaxSegmentDuration 0 ∷ []) refl,
  untyped_rows (λ es xs. findings untyped es xs ≡ finding StaticTimeShift 0 ∷ finding StaticUnbounded 0 ∷ finding NoDurationNorUpdate 0 ∷ finding NoMaxSegmentDuration 0 ∷ []) refl,
  audio_rows (λ es xs. findings audio es xs ≡ finding AudioWithoutLanguage 0 ∷ finding DurationAndTimeline 1 ∷ finding InitializationVaries 1 ∷ finding MediaBroken 1 ∷ []) refl,
  refl,
  endless_accepted Four (refl, refl, refl),
  overlapping_refused,
  abutting_accepted (λ v runs. length (timeline_by v runs) ≡ 2) refl,
  sample_accepted (λ v runs. address_by v runs 1 ≡ codes "http://h/v1/20") refl,
  refl,
)
