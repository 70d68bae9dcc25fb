-- The conformance rules: what each says of one element.
use Rattle.std.specs.Prelude.{ℕ, Bool, false, not, ◌&&◌, ◌||◌, List, [], ◌∷◌, is_some, Some, None, codes, Option}
use Rattle.std.specs.Option.{unwrap_or}
use Rattle.std.specs.Str.{bytes_eq}
use Rattle.tables.specs.declared.manifest.Attribute.{Attribute}
use Rattle.tables.specs.declared.manifest.Element.{Element}
use Rattle.template.specs.Reading.{broken as brokenTemplate, stands}
use Rattle.template.specs.declared.Identifier.TheVariants.{Number, Time}
use Rattle.tree.specs.Questions.{name_at, value_of, child_of}
use Rattle.rules.specs.declared.rule.Rule.{Rule}
use Rattle.rules.specs.declared.rule.Rule.TheVariants.{DynamicUnanchored, StaticTimeShift, StaticUnbounded, NoDurationNorUpdate, NoMaxSegmentDuration, DurationAndTimeline, InitializationVaries, MediaBroken, AudioWithoutLanguage}

-- the number after the F by which a rule is known
abbrev pub number : Rule → ℕ
number DynamicUnanchored = 1
number StaticTimeShift = 2
number StaticUnbounded = 3
number NoDurationNorUpdate = 4
number NoMaxSegmentDuration = 5
number DurationAndTimeline = 6
number InitializationVaries = 7
number MediaBroken = 8
number AudioWithoutLanguage = 9

-- the rules in their order
abbrev pub rules : List Rule
rules = DynamicUnanchored ∷ StaticTimeShift ∷ StaticUnbounded ∷ NoDurationNorUpdate ∷ NoMaxSegmentDuration ∷ DurationAndTimeline ∷ InitializationVaries ∷ MediaBroken ∷ AudioWithoutLanguage ∷ []

-- whether a template holds an identifier that changes from segment to segment, before any break
abbrev pub varies : Option (List ℕ) → Bool
varies None = false
varies (Some t) = stands Number t || stands Time t

-- whether there is a template and it is broken
abbrev pub is_broken : Option (List ℕ) → Bool
is_broken None = false
is_broken (Some t) = brokenTemplate t

module _ (m : List ℕ) (es : List Element) (attrs : List Attribute) (e : ℕ) where
  -- the element has the name n
  abbrev pub is : List ℕ → Bool
  is n = bytes_eq (name_at m es e) n

  -- the element has an attribute n
  abbrev pub has : List ℕ → Bool
  has n = is_some (value_of m attrs e n)

  -- the type of an MPD is t; where it says none, it is static
  abbrev pub typed : List ℕ → Bool
  typed t = bytes_eq (unwrap_or (value_of m attrs e (codes "type")) (codes "static")) t

  -- whether the rule is broken at the element in the row e
  abbrev pub broken : Rule → Bool
  broken DynamicUnanchored = is (codes "MPD") && (typed (codes "dynamic") && not (has (codes "availabilityStartTime")))
  broken StaticTimeShift = is (codes "MPD") && (typed (codes "static") && has (codes "timeShiftBufferDepth"))
  broken StaticUnbounded = is (codes "MPD") && (typed (codes "static") && not (has (codes "mediaPresentationDuration")))
  broken NoDurationNorUpdate = is (codes "MPD") && (not (has (codes "mediaPresentationDuration")) && not (has (codes "minimumUpdatePeriod")))
  broken NoMaxSegmentDuration = is (codes "MPD") && not (has (codes "maxSegmentDuration"))
  broken DurationAndTimeline = is (codes "SegmentTemplate") && (has (codes "duration") && is_some (child_of m es e (codes "SegmentTimeline")))
  broken InitializationVaries = is (codes "SegmentTemplate") && varies (value_of m attrs e (codes "initialization"))
  broken MediaBroken = is (codes "SegmentTemplate") && is_broken (value_of m attrs e (codes "media"))
  broken AudioWithoutLanguage = is (codes "AdaptationSet") && (bytes_eq (unwrap_or (value_of m attrs e (codes "contentType")) []) (codes "audio") && not (has (codes "lang")))
