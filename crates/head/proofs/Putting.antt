-- What one more call writes behind the mark.
use Rattle.std.proofs.Common.{◌≡◌, ℕ, ◌+◌, ◌-◌, ◌≤◌, min, cond, List, [], ◌++◌, length, take, drop, Some, Ok, Err, Option, Result, sym, ap, ◌∙◌, inl, inr, append_assoc, append-nil, add-zero, arith, take_at}
use lib.Seq.{paste, paste-zero, take-paste}
use Rattle.std.proofs.lemmas.List.{length-take-le, take_all, nil_from_length}
use Rattle.std.proofs.lemmas.Bool.{cases_lt}
use Rattle.output.specs.declared.NoRoom.{NoRoom}
use Rattle.output.specs.Text.{Puts}
use Rattle.timeline.specs.declared.segment.Segment.{Segment}
use Rattle.head.specs.declared.fault.HeadFault.{HeadFault}
use Rattle.head.specs.declared.step.Call.{Call}
use Rattle.head.specs.declared.step.Call.TheVariants.{Seek, On, Back, Address}
use Rattle.head.specs.Heads.{raised}
use Rattle.head.specs.Sequences.{went_through, written_by, Output, Obeys, left_at}
use Rattle.head.proofs.Writing.{stands_within, standing_cases}

module _ (bytes : List ℕ) (used : ℕ) (text : List ℕ) where
  -- a copy leaves what stands before it
  before_paste : (n : ℕ) → n ≤ length bytes - used → take used (paste bytes used text n) ≡ take used bytes
  before_paste n h =
      elim (cases_lt (length bytes) used) [
        | inl past ↦ let z : n ≡ 0 = omega arith in rw z (ap (take used) (sym (paste-zero bytes used text)))
        | inr within ↦ ap (take used) (append_assoc (take used bytes) (take n text) (drop (used + n) bytes)) ∙ take_at (take used bytes) (take n text ++ drop (used + n) bytes) used (length-take-le used bytes within)
      ]

  -- and a whole text stands behind that
  whole_paste : (n : ℕ) → n ≡ length text → n ≤ length bytes - used → take (used + n) (paste bytes used text n) ≡ take used bytes ++ text
  whole_paste n e h =
      elim (cases_lt (length bytes) used) [
        | inl past ↦
            let z : n ≡ 0 = omega arith in
            let none : text ≡ [] = nil_from_length text (omega arith) in
            ap (λ m. take (used + m) (paste bytes used text m)) z
            ∙ ap (λ m. take m (paste bytes used text 0)) (add-zero used)
            ∙ ap (take used) (sym (paste-zero bytes used text))
            ∙ sym (append-nil (take used bytes))
            ∙ ap (λ l. take used bytes ++ l) (sym none)
        | inr within ↦ take-paste bytes used text n within (omega arith) ∙ ap (λ l. take used bytes ++ l) (take_all n text (omega arith))
      ]

  module _ (bytes' : List ℕ) (used' : ℕ) where
    puts_adds : (q : Result (Unit {0}) NoRoom) → Puts bytes used text bytes' used' q → (used' ≡ used + length (cond (went_through (raised q)) text [])) × (take used' bytes' ≡ take used bytes ++ cond (went_through (raised q)) text [])
    puts_adds (Ok u) p =
        let m = min (length text) (length bytes - used) in
        let fits = p.answer.0 in
        let all : m ≡ length text = omega arith in
        (p.answer.1, ap (λ n. take n bytes') (p.answer.1 ∙ ap (λ n. used + n) (sym all)) ∙ ap (take (used + m)) p.left ∙ whole_paste m all (omega arith))
    puts_adds (Err e) p =
        let m = min (length text) (length bytes - used) in
        (p.answer.1 ∙ sym (add-zero used), ap (λ n. take n bytes') p.answer.1 ∙ ap (take used) p.left ∙ before_paste m (omega arith) ∙ sym (append-nil (take used bytes)))

-- the mark moves past what a call writes, and the bytes up to it are what they were, with that behind
abbrev pub Adds : (ℕ → List ℕ) → Call → Result (Unit {0}) HeadFault → Option ℕ → Output → Output → Type 0
Adds address call r place o o' =
    (o'.used ≡ o.used + length (written_by address record { call = call; answer = r; place = place }))
    × (take o'.used o'.bytes ≡ take o.used o.bytes ++ written_by address record { call = call; answer = r; place = place })

nothing : (o o' : Output) → o' ≡ o → (o'.used ≡ o.used + 0) × (take o'.used o'.bytes ≡ take o.used o.bytes ++ [])
nothing o o' e = (ap (λ p. p.used) e ∙ sym (add-zero o.used), ap (λ p. take p.used p.bytes) e ∙ sym (append-nil (take o.used o.bytes)))

pub obeys_adds : (xs : List Segment) (address : ℕ → List ℕ) (timescale : ℕ) (place : Option ℕ) (r : Result (Unit {0}) HeadFault) (place' : Option ℕ) (call : Call) (o o' : Output) → Obeys xs address timescale place call r place' o o' → place' ≡ left_at xs timescale place call → Adds address call r place' o o'
obeys_adds xs address timescale place r place' (Seek ms) o o' obeys at = nothing o o' obeys.1
obeys_adds xs address timescale place r place' On o o' obeys at = nothing o o' obeys.1
obeys_adds xs address timescale place r place' Back o o' obeys at = nothing o o' obeys.1
obeys_adds xs address timescale place r place' Address o o' obeys at =
    elim (standing_cases xs place) [
      | inl w ↦
          let put = obeys.there w.0 w.1 in
          let here : place' ≡ Some w.0 = at ∙ (stands_within xs place w.0 w.1).0 in
          rw (here, put.2) (puts_adds o.bytes o.used (address w.0) o'.bytes o'.used put.0 put.1)
      | inr w ↦
          let none = obeys.nowhere w in
          rw none.0 (none.2 ∙ sym (add-zero o.used), ap (λ n. take n o'.bytes) none.2 ∙ ap (take o.used) none.1 ∙ sym (append-nil (take o.used o.bytes)))
    ]
