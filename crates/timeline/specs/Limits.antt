-- How many segments a timeline may have.
use Rattle.std.specs.Prelude.{ℕ, ◌+◌, Bool, ◌||◌, nat_lt}

-- whether n segments from the number `first` on are over a limit
abbrev pub too_many : ℕ → ℕ → Bool
too_many first n = nat_lt 2147483647 n || nat_lt 4294967296 (first + n)
