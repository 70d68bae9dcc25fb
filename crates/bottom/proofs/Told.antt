-- What is told of a place, and what that says of the list.
use Rattle.std.proofs.Common.{◌≡◌, ℕ, ◌<◌, ◌≤◌, Bool, true, false, List, [], length, get_or, Ok, Err, Result, refl, ap, ◌∙◌, subst, ⊎_elim, arith}
use borrow.Author.Tests.{clash}
use Rattle.std.proofs.lemmas.Bool.{cases_lt}
use Rattle.address.specs.Joining.{address_of}
use Rattle.address.specs.Putting.{as_fault, PutsUnless}
use Rattle.address.specs.declared.ExpandFault.{ExpandFault}
use Rattle.address.specs.declared.Parts.{Parts}
use Rattle.output.specs.Text.{Puts}
use Rattle.output.specs.declared.NoRoom.{NoRoom}
use Rattle.std.specs.Result.{MatchResult, IsErrAnd}
use Rattle.std.proofs.lemmas.Result.{err_from_is_err_and}
use Rattle.timeline.specs.declared.fault.AddressFault.{AddressFault}
use Rattle.timeline.specs.Addresses.{raised, Addressing}
use Rattle.bottom.specs.Placing.{unless, address_at, as_address_fault}
use Rattle.timeline.specs.Segments.{told, blank}
use Rattle.timeline.specs.Laws.Tellings.{told_at, told_past}
use Rattle.timeline.specs.declared.fault.NoSuchPlace.{NoSuchPlace}
use Rattle.timeline.specs.declared.segment.Segment.{Segment}

pub told_some : (xs : List Segment) (i : ℕ) (s : Segment) → Ok s ≡ told xs i → (i < length xs) × (s ≡ get_or xs i blank)
told_some xs i s e =
    ⊎_elim
    (λ lt. let at = told_at xs i blank lt in let same : s ≡ get_or xs i blank = cc in (lt, same))
    (λ le. let past = told_past xs i le in let z : ◌≡◌ {A = ℕ} 0 1 = cc in absurd (omega arith))
    (cases_lt i (length xs))

pub told_none : (xs : List Segment) (i : ℕ) (e : NoSuchPlace) → Err e ≡ told xs i → length xs ≤ i
told_none xs i e h =
    ⊎_elim
    (λ lt. let at = told_at xs i blank lt in let z : ◌≡◌ {A = ℕ} 0 1 = cc in absurd (omega arith))
    (λ le. le)
    (cases_lt i (length xs))

-- the answer of a put, as one of an address
abbrev pub carried : Result (Unit {0}) ExpandFault → Result (Unit {0}) AddressFault
carried (Ok u) = Ok u
carried (Err e) = Err (as_address_fault e)

-- what `map_err` answers, where its closure takes each refusal for one of an address
pub carried_on : (q : Result (Unit {0}) ExpandFault) (r : Result (Unit {0}) AddressFault) (P : ExpandFault → AddressFault → Type 0) →
    MatchResult q (λ x. r ≡ Ok x) (λ e. IsErrAnd r (P e)) → ((e : ExpandFault) (d : AddressFault) → P e d → d ≡ as_address_fault e) →
    r ≡ carried q
carried_on (Ok u) r P h is = h
carried_on (Err e) r P h is = let p = err_from_is_err_and r h in p.1 ∙ ap Err (is e p.0 p.2)

carried_raised : (q : Result (Unit {0}) NoRoom) → carried (as_fault q) ≡ raised q
carried_raised (Ok u) = refl
carried_raised (Err e) = refl

-- a segment that is told, and the put of its address
pub addressing : (p : Parts) (xs : List Segment) (torn br : Bool) → torn ≡ br → (i : ℕ) (s : Segment) → Ok s ≡ told (unless torn xs) i → (bytes : List ℕ) (used : ℕ) (bytes' : List ℕ) (used' : ℕ) (r : Result (Unit {0}) ExpandFault) → PutsUnless br bytes used (address_of p s.number s.start) bytes' used' r → Addressing (length (unless torn xs)) i (address_at p xs i) bytes used bytes' used' (carried r)
addressing p xs true br e i s h bytes used bytes' used' r puts = let at = told_some [] i s h in absurd (omega (arith, at.0))
addressing p xs false true e i s h bytes used bytes' used' r puts = absurd (clash e)
addressing p xs false false e i s h bytes used bytes' used' r puts =
    let at = told_some xs i s h in
    record {
      there = λ lt. (puts.0, subst (λ x. Puts bytes used (address_of p x.number x.start) bytes' used' puts.0) at.1 puts.1, ap carried puts.2 ∙ carried_raised puts.0);
      past = λ le. absurd (omega (arith, at.0));
    }
