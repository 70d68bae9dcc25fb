-- The lines of a listing and their bytes.
use Rattle.std.specs.Prelude.{ℕ, ◌-◌, List, [], ◌∷◌, ◌++◌, map, length, Ok, Err, codes, Result, slice_index_or}
use Rattle.output.specs.Digits.{padded}
use Rattle.rules.specs.Laws.{number_of}
use Rattle.rules.specs.declared.rule.Finding.{Finding as Found}
use Rattle.tables.specs.Zero.{no_element}
use Rattle.tables.specs.declared.manifest.Element.{Element}
use Rattle.listing.specs.Numbers.{number}
use Rattle.listing.specs.declared.fault.ListFault.{ListFault}
use Rattle.listing.specs.declared.line.Line.{Line}
use Rattle.listing.specs.declared.line.Line.TheVariants.{Findings, Finding, Segments, Refused}

-- the bytes of a line, with the LF that ends it
abbrev pub text : Line → List ℕ
text (Findings n) = codes "findings " ++ (padded 1 n ++ (10 ∷ []))
text (Finding f b) = codes "F" ++ (padded 1 f ++ (codes " " ++ (padded 1 b ++ (10 ∷ []))))
text (Segments n) = codes "segments " ++ (padded 1 n ++ (10 ∷ []))
text (Refused n) = codes "refused " ++ (padded 1 n ++ (10 ∷ []))

-- the byte of the '<' of the element in the row e: the one before its name
abbrev pub angle_at : List Element → ℕ → ℕ
angle_at es e = (slice_index_or es e no_element).name.at - 1

-- the line of a finding, 0 for the number where it has no rule
abbrev pub finding_line : List Element → Found → Line
finding_line es f = Finding (number_of f.rule) (angle_at es f.element)

-- the lines of a manifest, of which this was answered and these rows are left
abbrev pub lines : Result (Unit {0}) ListFault → List Element → List Found → List Line
lines (Ok u) es fs = Findings (length fs) ∷ map (finding_line es) fs
lines (Err e) es fs = Refused (number e) ∷ []
