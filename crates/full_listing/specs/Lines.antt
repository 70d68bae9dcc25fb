-- The lines of a listing and their bytes.
use Rattle.std.specs.Prelude.{ℕ, ◌+◌, cond, List, [], ◌∷◌, ◌++◌, map, length, Some, None, Ok, Err, codes, Option, Result, nat_le}
use Rattle.listing.specs.Lines.{text, lines}
use Rattle.listing.specs.declared.line.Line.TheVariants.{Findings, Segments, Refused}
use Rattle.output.specs.Digits.{padded}
use Rattle.output.specs.Text.{number as roomNumber}
use Rattle.presentation.specs.Lists.{timeline_of, addresses_of}
use Rattle.presentation.specs.declared.plan.Plan.{Plan}
use Rattle.rules.specs.declared.rule.Finding.{Finding}
use Rattle.tables.specs.declared.manifest.Element.{Element}
use Rattle.timeline.specs.declared.run.Run.{Run}
use Rattle.timeline.specs.declared.segment.Segment.{Segment}
use Rattle.full_listing.specs.Numbers.{number}
use Rattle.full_listing.specs.declared.fault.ListFault.{ListFault}
use Rattle.full_listing.specs.declared.printing.Listing.{Listing}

-- the bytes of the line of a segment: its number, its start, its length and its address
abbrev pub segment_text : Segment → List ℕ → List ℕ
segment_text s address =
    padded 1 s.number ++ (codes " " ++ (padded 1 s.start ++ (codes " " ++ (padded 1 s.length ++ (codes " " ++ (address ++ (10 ∷ [])))))))

-- the lines of segments from the place k on
abbrev pub segment_lines : (ℕ → List ℕ) → ℕ → List Segment → List (List ℕ)
segment_lines address k [] = []
segment_lines address k (s ∷ ss) = segment_text s (address k) ∷ segment_lines address (k + 1) ss

-- the lines where a step refused, where there are findings, and where there is a timeline
abbrev pub refused_lines : ListFault → List (List ℕ)
refused_lines e = text (Refused (number e)) ∷ []

abbrev pub found_lines : List Element → List Finding → List (List ℕ)
found_lines es fs = map text (lines (Ok tt) es fs)

abbrev pub timeline_lines : List Segment → (ℕ → List ℕ) → List (List ℕ)
timeline_lines xs address = text (Findings 0) ∷ text (Segments (length xs)) ∷ segment_lines address 0 xs

-- the lines of a manifest, of which this was answered and these rows are left, by what gives a timeline
abbrev pub lines_by : {X : Type 0} → (X → List Run → List Segment) → (X → List Run → ℕ → List ℕ) → Result (Option X) ListFault → List Element → List Finding → List Run → List (List ℕ)
lines_by timeline addresses (Ok (Some x)) es fs runs = timeline_lines (timeline x runs) (addresses x runs)
lines_by timeline addresses (Ok None) es fs runs = found_lines es fs
lines_by timeline addresses (Err e) es fs runs = refused_lines e

abbrev pub lines_of : Result (Option Plan) ListFault → List Element → List Finding → List Run → List (List ℕ)
lines_of answer es fs runs = lines_by timeline_of addresses_of answer es fs runs

abbrev pub lines_in : Listing → List (List ℕ)
lines_in l = lines_of l.answer l.elements.now l.findings.now l.runs.now

-- the line of a line that does not fit
abbrev pub no_room_text : List ℕ
no_room_text = text (Refused (roomNumber (record {})))

-- what is printed of some lines into outputs of n bytes: the first line that does not fit is refused, and ends it
abbrev pub printed : ℕ → List (List ℕ) → List (List ℕ)
printed n [] = []
printed n (line ∷ lines) = cond (nat_le (length line) n) (line ∷ printed n lines) (no_room_text ∷ [])
