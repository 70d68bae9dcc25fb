-- What is said of a call.
use Rattle.std.specs.Prelude.{ℕ, List, ◌++◌, Some, None, Ok, Err, codes, Option, Result}
use Rattle.head.specs.declared.fault.HeadFault.{HeadFault}
use Rattle.head.specs.Refusals.{number}
use Rattle.output.specs.Digits.{padded}

abbrev pub answer_text : Result (Unit {0}) HeadFault → List ℕ
answer_text (Ok u) = codes " -> ok"
answer_text (Err e) = codes " -> refused " ++ padded 1 (number e)

abbrev pub place_text : Option ℕ → List ℕ
place_text None = codes ", nowhere"
place_text (Some p) = codes ", at " ++ padded 1 p

abbrev pub report : Result (Unit {0}) HeadFault → Option ℕ → List ℕ
report answer place = answer_text answer ++ place_text place
