-- Which bytes are which call. The space and the tab are the bytes 32 and 9.
use Rattle.std.specs.Prelude.{◌≡◌, ℕ, ◌^◌, ◌<◌, Bool, true, false, ◌||◌, List, ◌++◌, Some, None, Ok, Err, codes, Option, Result, ◌==◌}
use Rattle.std.specs.List.{list_all}
use Rattle.head.specs.declared.step.Call.{Call}
use Rattle.head.specs.declared.step.Call.TheVariants.{Seek, On, Back, Address}
use Rattle.values.specs.Whole.{Whole}
use Rattle.cue.specs.declared.order.NotACall.{NotACall}

-- how a call is written: the time of a seek is a decimal number that fits 64 bits
abbrev pub Says : Call → List ℕ → Type 0
Says (Seek ms) line = (time : List ℕ) × (line ≡ codes "seek " ++ time) × Whole time ms × (ms < 2 ^ 64)
Says On line = line ≡ codes "on"
Says Back line = line ≡ codes "back"
Says Address line = line ≡ codes "address"

-- the line is no call
abbrev pub Silent : List ℕ → Type 0
Silent line = (c : Call) → Says c line → ⊥

-- whether there is nothing but spaces and tabs
abbrev pub blank : List ℕ → Bool
blank line = list_all (λ b. b == 32 || b == 9) line

-- what a line is taken for: a call, no call as it is blank, or no call though it is not
abbrev pub Means : Result (Option Call) NotACall → List ℕ → Type 0
Means (Ok (Some call)) line = Says call line
Means (Ok None) line = blank line ≡ true
Means (Err e) line = (blank line ≡ false) × Silent line
