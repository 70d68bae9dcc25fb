-- An address at the place where the head stands.
use Rattle.std.proofs.Common.{◌≡◌, ℕ, ◌<◌, ltb, ◌⊎◌, List, length, Some, None, Ok, Err, Option, Result, refl, ap, ◌∙◌, inl, inr}
use Rattle.std.proofs.lemmas.Bool.{cases_Bool, ltb-true}
use Rattle.output.specs.declared.NoRoom.{NoRoom}
use Rattle.timeline.specs.declared.segment.Segment.{Segment}
use Rattle.timeline.specs.declared.fault.AddressFault.{AddressFault}
use Rattle.timeline.specs.Addresses.{Addressing, raised as raised_below}
use Rattle.head.specs.declared.fault.HeadFault.{HeadFault}
use Rattle.head.specs.declared.fault.HeadFault.TheVariants.{Nowhere}
use Rattle.head.specs.Refusals.{of_address}
use Rattle.head.specs.Heads.{to, refused, standing, raised, PutsAddress}

-- the answer below, as a head gives it
abbrev pub passed_on : Result (Unit {0}) AddressFault → Result (Unit {0}) HeadFault
passed_on (Ok u) = Ok u
passed_on (Err e) = Err (of_address e)

passed_raised : (q : Result (Unit {0}) NoRoom) → passed_on (raised_below q) ≡ raised q
passed_raised (Ok u) = refl
passed_raised (Err e) = refl

-- a head stands at a place that there is
pub stands_within : (xs : List Segment) (place : Option ℕ) (p : ℕ) → standing xs place ≡ to p → (place ≡ Some p) × (p < length xs)
stands_within xs None p e = absurd (cc)
stands_within xs (Some q) p e =
    elim (cases_Bool (ltb q (length xs))) [
      | inl yes' ↦
          let at : to q ≡ to p = rw yes' at e in
          let s : q ≡ p = cc in
          (ap Some s, rw s at (ltb-true q (length xs) yes'))
      | inr no' ↦ let at : refused Nowhere ≡ to p = rw no' at e in absurd (cc)
    ]

pub standing_cases : (xs : List Segment) (place : Option ℕ) → ((p : ℕ) × (standing xs place ≡ to p)) ⊎ (standing xs place ≡ refused Nowhere)
standing_cases xs None = inr refl
standing_cases xs (Some q) =
    elim (cases_Bool (ltb q (length xs))) [
      | inl yes' ↦ inl (q, rw yes')
      | inr no' ↦ inr (rw no')
    ]

pub puts_address : (xs : List Segment) (address : ℕ → List ℕ) (place : Option ℕ) (p : ℕ) (bytes : List ℕ) (used : ℕ) (bytes' : List ℕ) (used' : ℕ) (r : Result (Unit {0}) AddressFault) → standing xs place ≡ to p → Addressing (length xs) p (address p) bytes used bytes' used' r → PutsAddress xs address place bytes used bytes' used' (passed_on r)
puts_address xs address place p bytes used bytes' used' r at a =
    let put = a.there (stands_within xs place p at).1 in
    record {
      there = λ q e. let s : p ≡ q = cc in rw (← s) (put.0, put.1, ap passed_on put.2 ∙ passed_raised put.0);
      nowhere = λ e. absurd (cc);
    }
