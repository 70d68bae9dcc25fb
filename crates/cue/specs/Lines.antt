-- The lines of a text: they end in LF, the byte 10, or in CR and LF; CR is the byte 13.
use Rattle.std.specs.Prelude.{◌≡◌, ℕ, Bool, not, ◌⊎◌, List, [], ◌∷◌, ◌++◌, ◌==◌, ◌≢◌}

-- whether a byte does not end the line
abbrev pub in_line : ℕ → Bool
in_line b = not (b == 10)

-- what is left of a line when a CR at its end is taken off
abbrev pub Bare : List ℕ → List ℕ → Type 0
Bare line left = (line ≡ left ++ (13 ∷ [])) ⊎ ((left ≡ line) × ((front : List ℕ) → line ≢ front ++ (13 ∷ [])))
