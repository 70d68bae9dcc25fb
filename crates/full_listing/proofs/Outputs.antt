-- What the line at a place leaves of an output, and what is printed of all lines.
use Rattle.std.proofs.Common.{◌≡◌, ℕ, zero, suc, ◌+◌, ◌-◌, ◌<◌, ◌≤◌, min, Bool, true, false, cond, leb, List, [], ◌∷◌, length, get_or, take, Ok, Err, Result, sym, refl, ap, ◌∙◌, subst, inl, inr, arith}
use lib.Seq.{paste}
use Rattle.std.proofs.lemmas.List.Edits.{length-paste, take-paste}
use Rattle.std.proofs.lemmas.List.{take_all}
use Rattle.std.proofs.lemmas.Bool.{cases_lt, le-leb, lt-leb}
use Rattle.output.specs.Text.{room, after, Puts}
use Rattle.output.specs.declared.NoRoom.{NoRoom}
use Rattle.timeline.specs.Addresses.{Addressing}
use Rattle.timeline.specs.declared.fault.AddressFault.TheVariants.{NoRoom as full}
use Rattle.full_listing.specs.Lines.{no_room_text, printed}
use Rattle.full_listing.specs.Prints.{Prints, is_end, Before, Answers, Lawful}
use Rattle.full_listing.specs.declared.printing.Printed.{Printed}
use Rattle.full_listing.specs.declared.printing.Printed.TheVariants.{Last}
use Rattle.full_listing.proofs.Lines.{address_refused}

-- a line that did not fit, and the line of the refusal over what was put of it
module _ (ls : List (List ℕ)) (i : ℕ) {e : NoRoom} {bytes bytes₁ bytes₂ : List ℕ} {used used₁ used₂ : ℕ} {q : Result (Unit {0}) NoRoom} where
  pub prints_last : Addressing (length ls) i (get_or ls i []) bytes used bytes₁ used₁ (Err (full e)) → Puts bytes₁ used₁ no_room_text bytes₂ used₂ q → Prints ls i bytes used bytes₂ used₂ Last
  prints_last w p = record {
    fits = λ lt room. let no = address_refused w lt in absurd (omega (arith, no.1.answer.0));
    full = λ lt room.
        let no = address_refused w lt in
        (refl, (q, subst (λ d. Puts d used no_room_text bytes₂ used₂ q) no.1.left (subst (λ n. Puts bytes₁ n no_room_text bytes₂ used₂ q) no.1.answer.1 p)));
    past = λ le. let none = w.past le in let z : ◌≡◌ {A = ℕ} 0 1 = cc in absurd (omega arith);
  }

later : (a b : ℕ) → leb (suc a) (suc b) ≡ leb a b
later a b = elim (cases_lt b a) [
  | inl lt ↦ lt-leb (suc a) (suc b) (omega arith) ∙ sym (lt-leb a b lt)
  | inr le ↦ le-leb (suc a) (suc b) (omega arith) ∙ sym (le-leb a b le)
]

module _ (n : ℕ) where
  more : (l : List ℕ) (ls : List (List ℕ)) → length l ≤ n → printed n (l ∷ ls) ≡ l ∷ printed n ls
  more l ls h = ap (λ b. cond b (l ∷ printed n ls) (no_room_text ∷ [])) (le-leb (length l) n h)

  stop : (l : List ℕ) (ls : List (List ℕ)) → n < length l → printed n (l ∷ ls) ≡ no_room_text ∷ []
  stop l ls h = ap (λ b. cond b (l ∷ printed n ls) (no_room_text ∷ [])) (lt-leb (length l) n h)

  -- what is printed at the place, and whether it is past the last line
  abbrev At : List (List ℕ) → ℕ → List ℕ → Bool → Type 0
  At ps i t b = (get_or ps i [] ≡ t) × (leb (length ps) i ≡ b)

  -- behind a line that fits
  on : (l : List ℕ) (ls : List (List ℕ)) (i : ℕ) (t : List ℕ) (b : Bool) → length l ≤ n → At (printed n ls) i t b → At (printed n (l ∷ ls)) (suc i) t b
  on l ls i t b h at = subst (λ ps. At ps (suc i) t b) (sym (more l ls h)) (at.0, later (length (printed n ls)) i ∙ at.1)

  printed_fits : (ls : List (List ℕ)) (i : ℕ) → Before n ls i → i < length ls → length (get_or ls i []) ≤ n → At (printed n ls) i (get_or ls i []) false
  printed_fits [] i f lt h = absurd (omega arith)
  printed_fits (l ∷ ls) zero f lt h = subst (λ ps. At ps 0 l false) (sym (more l ls h)) (refl, lt-leb (suc (length (printed n ls))) 0 (omega arith))
  printed_fits (l ∷ ls) (suc i) f lt h = on l ls i (get_or ls i []) false (f 0 (omega arith)) (printed_fits ls i (λ k j. f (suc k) (omega arith)) (omega arith) h)

  printed_full : (ls : List (List ℕ)) (i : ℕ) → Before n ls i → i < length ls → n < length (get_or ls i []) → At (printed n ls) i no_room_text false
  printed_full [] i f lt h = absurd (omega arith)
  printed_full (l ∷ ls) zero f lt h = subst (λ ps. At ps 0 no_room_text false) (sym (stop l ls h)) (refl, refl)
  printed_full (l ∷ ls) (suc i) f lt h = on l ls i no_room_text false (f 0 (omega arith)) (printed_full ls i (λ k j. f (suc k) (omega arith)) (omega arith) h)

  printed_past : (ls : List (List ℕ)) (i : ℕ) → Before n ls i → length ls ≤ i → At (printed n ls) i [] true
  printed_past [] i f le = (refl, le-leb 0 i (omega arith))
  printed_past (l ∷ ls) zero f le = absurd (omega arith)
  printed_past (l ∷ ls) (suc i) f le = on l ls i [] true (f 0 (omega arith)) (printed_past ls i (λ k j. f (suc k) (omega arith)) (omega arith))

-- a text that was put into an output with the mark 0 is what stands before the mark
put_whole : (bytes t bytes' : List ℕ) (used' : ℕ) (u : Unit {0}) → Puts bytes 0 t bytes' used' (Ok u) → take used' bytes' ≡ t
put_whole bytes t bytes' used' u p =
    let count : min (length t) (length bytes - 0) ≡ length t = omega (arith, p.answer.0) in
    let moved : used' ≡ 0 + length t = p.answer.1 in
    let left : bytes' ≡ paste bytes 0 t (length t) = p.left ∙ ap (λ n. paste bytes 0 t n) count in
    ap (λ n. take n bytes') moved ∙ ap (take (0 + length t)) left ∙ take-paste bytes 0 t (length t) (omega arith) (omega arith) ∙ take_all (length t) t (omega arith)

length-after : (bytes t : List ℕ) → length (after bytes 0 t) ≡ length bytes
length-after bytes t = length-paste bytes 0 t (min (length t) (length bytes - 0)) (omega arith) (omega arith)

no_room_long : length no_room_text ≡ 11
no_room_long = refl

-- where there is room for the line of a refusal it is put whole
refusal_whole : (bytes bytes' : List ℕ) (used' : ℕ) (q : Result (Unit {0}) NoRoom) → 11 ≤ length bytes → Puts bytes 0 no_room_text bytes' used' q → take used' bytes' ≡ no_room_text
refusal_whole bytes bytes' used' (Ok u) h p = put_whole bytes no_room_text bytes' used' u p
refusal_whole bytes bytes' used' (Err e) h p = absurd (omega (arith, p.answer.0, no_room_long))

module _ (ls : List (List ℕ)) (i : ℕ) (bytes bytes' : List ℕ) (used' : ℕ) (r : Printed) where
  kept : Prints ls i bytes 0 bytes' used' r → 11 ≤ length bytes → Before (length bytes) ls i → Answers (printed (length bytes) ls) i (take used' bytes') r
  kept w h f = elim (cases_lt i (length ls)) [
    | inl lt ↦ elim (cases_lt (length bytes) (length (get_or ls i []))) [
      | inl long ↦
          let at = printed_full (length bytes) ls i f lt long in
          let did = w.full lt (omega arith) in
          let put = did.1 in
          let wrote = refusal_whole (after bytes 0 (get_or ls i [])) bytes' used' put.0 (rw (length-after bytes (get_or ls i [])) h) put.1 in
          (wrote ∙ sym at.0, ap is_end did.0 ∙ sym at.1)
      | inr short ↦
          let at = printed_fits (length bytes) ls i f lt short in
          let did = w.fits lt (omega arith) in
          (put_whole bytes (get_or ls i []) bytes' used' tt did.1 ∙ sym at.0, ap is_end did.0 ∙ sym at.1)
    ]
    | inr le ↦
        let at = printed_past (length bytes) ls i f le in
        let did = w.past le in
        (ap (λ n. take n bytes') did.2 ∙ sym at.0, ap is_end did.0 ∙ sym at.1)
  ]

-- an output with the mark 0 holds what is printed at the place
module _ (ls : List (List ℕ)) (i : ℕ) {bytes bytes' : List ℕ} {used used' : ℕ} {r : Printed} where
  pub lawful : Prints ls i bytes used bytes' used' r → Lawful ls i bytes used bytes' used' r
  lawful w start room before = kept ls i bytes bytes' used' r (subst (λ n. Prints ls i bytes n bytes' used' r) start w) room before
