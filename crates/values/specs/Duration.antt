-- Durations: PT, then hours, minutes and seconds, at least one of them.
-- The bytes H, M, S and the point are 72, 77, 83 and 46.
use Rattle.std.specs.Prelude.{◌≡◌, ℕ, ◌+◌, ◌-◌, ◌*◌, ◌^◌, ◌<◌, ◌≤◌, Bool, true, cond, ◌&&◌, List, [], ◌∷◌, ◌++◌, length, drop, Ok, Err, codes, Result, ◌==◌, nat_le, nat_lt, slice_index}
use Rattle.values.specs.declared.ValueFault.{ValueFault}
use Rattle.values.specs.declared.ValueFault.TheVariants.{NoDuration}
use Rattle.values.specs.Whole.{digits, decimal}
use Rattle.values.specs.Fields.{total, used}

-- the hours or the minutes: left out, or digits
pub data Field : Type 0 where
  absent : Field
  given : List ℕ → Field

-- the seconds: left out, digits, or digits with decimals behind a point
pub data Seconds : Type 0 where
  absent : Seconds
  whole : List ℕ → Seconds
  pointed : List ℕ → List ℕ → Seconds

-- at least one digit, and nothing else
abbrev pub Digits : List ℕ → Type 0
Digits ds = (digits ds ≡ true) × (0 < length ds)

-- hours or minutes may be left out
abbrev pub SoundField : Field → Type 0
SoundField absent = Unit {0}
SoundField (given ds) = Digits ds

-- seconds may be left out, and have at most three decimals
abbrev pub SoundSeconds : Seconds → Type 0
SoundSeconds absent = Unit {0}
SoundSeconds (whole ds) = Digits ds
SoundSeconds (pointed ds fs) = Digits ds × Digits fs × (length fs ≤ 3)

-- how hours or minutes are written
abbrev pub field_text : ℕ → Field → List ℕ
field_text unit absent = []
field_text unit (given ds) = ds ++ (unit ∷ [])

-- how seconds are written
abbrev pub seconds_text : Seconds → List ℕ
seconds_text absent = []
seconds_text (whole ds) = ds ++ (83 ∷ [])
seconds_text (pointed ds fs) = ds ++ (46 ∷ (fs ++ (83 ∷ [])))

-- how many hours or minutes
abbrev pub field_value : Field → ℕ
field_value absent = 0
field_value (given ds) = decimal ds

-- how many milliseconds the seconds are
abbrev pub seconds_value : Seconds → ℕ
seconds_value absent = 0
seconds_value (whole ds) = decimal ds * 1000
seconds_value (pointed ds fs) = decimal ds * 1000 + decimal fs * 10 ^ (3 - length fs)

-- the text is a duration of ms milliseconds: more than PT alone, and at most a hundred million seconds
pub record Duration (text : List ℕ) (ms : ℕ) : Type 0 where
  pub hours : Field
  pub minutes : Field
  pub seconds : Seconds
  pub hours_sound : SoundField hours
  pub minutes_sound : SoundField minutes
  pub seconds_sound : SoundSeconds seconds
  pub written : text ≡ codes "PT" ++ (field_text 72 hours ++ (field_text 77 minutes ++ seconds_text seconds))
  pub some : 2 < length text
  pub value : ms ≡ field_value hours * 3600000 + field_value minutes * 60000 + seconds_value seconds
  pub small : ms ≤ 100000000000

-- whether a text begins with PT and goes on
abbrev pub begun : List ℕ → Bool
begun text = nat_lt 2 (length text) && (slice_index text 0 == 80 && slice_index text 1 == 84)

-- whether the fields behind PT are all of the text, and not too long a time
abbrev pub is_duration : List ℕ → Bool
is_duration text = begun text && (2 + used (drop 2 text) == length text && nat_le (total (drop 2 text)) 100000000000)

-- the milliseconds of the duration that the text is, or else the fault
abbrev pub duration_of : List ℕ → Result ℕ ValueFault
duration_of text = cond (is_duration text) (Ok (total (drop 2 text))) (Err NoDuration)
