-- The fields of a duration, as they are read from the front of a text.
-- The bytes H, M, S and the point are 72, 77, 83 and 46.
use Rattle.std.specs.Prelude.{◌≡◌, ◌<◌, min, ℕ, ◌+◌, ◌-◌, ◌*◌, ◌^◌, Bool, cond, ◌&&◌, List, length, take, drop, ◌==◌, nat_le, nat_lt, slice_index}
use Rattle.std.specs.List.{prefix_len}
use Rattle.values.specs.Whole.{digit, decimal}

-- the digits that stand first
abbrev pub front : List ℕ → List ℕ
front xs = take (prefix_len digit xs) xs

-- whether digits and then the unit stand first
abbrev pub has_field : ℕ → List ℕ → Bool
has_field unit xs = nat_lt 0 (prefix_len digit xs) && slice_index xs (prefix_len digit xs) == unit

-- how many bytes the digits and the unit are, none where they do not stand first
abbrev pub field_len : ℕ → List ℕ → ℕ
field_len unit xs = cond (has_field unit xs) (prefix_len digit xs + 1) 0

-- the number before the unit, 0 where there is none
abbrev pub field_num : ℕ → List ℕ → ℕ
field_num unit xs = cond (has_field unit xs) (decimal (front xs)) 0

-- n is what the first len bytes of the text come to, which are some, and rest is what stands behind them
abbrev pub Takes : ℕ → ℕ → List ℕ → ℕ → List ℕ → Type 0
Takes len value xs n rest = (0 < len) × (n ≡ value) × (rest ≡ drop len xs) × (length rest + len ≡ length xs)

-- the field stands first, and its number is read, cut off above the longest duration
abbrev pub IsField : ℕ → List ℕ → ℕ → List ℕ → Type 0
IsField unit xs n rest = Takes (field_len unit xs) (min (field_num unit xs) 100000000001) xs n rest

-- what stands behind the point
abbrev pub behind : List ℕ → List ℕ
behind xs = drop (field_len 46 xs) xs

-- whether digits, a point, one to three digits and S stand first
abbrev pub has_decimals : List ℕ → Bool
has_decimals xs = nat_lt 0 (field_len 46 xs) && (nat_lt 0 (field_len 83 (behind xs)) && nat_le (field_len 83 (behind xs)) 4)

-- what the seconds come to: this where they are whole, that where they have decimals, 0 where there are none
abbrev pub by_seconds : List ℕ → ℕ → ℕ → ℕ
by_seconds xs whole pointed = cond (nat_lt 0 (field_len 83 xs)) whole (cond (has_decimals xs) pointed 0)

-- how many bytes the seconds are
abbrev pub seconds_len : List ℕ → ℕ
seconds_len xs = by_seconds xs (field_len 83 xs) (field_len 46 xs + field_len 83 (behind xs))

-- the whole seconds
abbrev pub seconds_num : List ℕ → ℕ
seconds_num xs = by_seconds xs (field_num 83 xs) (field_num 46 xs)

-- the milliseconds that the decimals are
abbrev pub seconds_millis : List ℕ → ℕ
seconds_millis xs = by_seconds xs 0 (field_num 83 (behind xs) * 10 ^ (4 - field_len 83 (behind xs)))

-- seconds stand first, and their milliseconds are read, of the whole ones as of a field's number
abbrev pub AreSeconds : List ℕ → ℕ → List ℕ → Type 0
AreSeconds xs ms rest = Takes (seconds_len xs) (min (seconds_num xs) 100000000001 * 1000 + seconds_millis xs) xs ms rest

-- what stands behind the hours
abbrev pub minutes_on : List ℕ → List ℕ
minutes_on xs = drop (field_len 72 xs) xs

-- what stands behind the hours and the minutes
abbrev pub seconds_on : List ℕ → List ℕ
seconds_on xs = drop (field_len 77 (minutes_on xs)) (minutes_on xs)

-- how many bytes the hours, the minutes and the seconds are
abbrev pub used : List ℕ → ℕ
used xs = field_len 72 xs + field_len 77 (minutes_on xs) + seconds_len (seconds_on xs)

-- the milliseconds of the hours, the minutes and the seconds
abbrev pub total : List ℕ → ℕ
total xs = field_num 72 xs * 3600000 + field_num 77 (minutes_on xs) * 60000 + (seconds_num (seconds_on xs) * 1000 + seconds_millis (seconds_on xs))
