-- Texts that are put in several parts, one after another.
use Rattle.std.proofs.Common.{◌≡◌, ℕ, ◌+◌, ◌-◌, ◌<◌, ◌≤◌, min, true, List, ◌++◌, length, take, drop, is_err, Ok, Err, Result, sym, refl, ap, ◌∙◌, ⊎_elim, arith, length-append, append_assoc}
use lib.Seq.{paste, take-append-add}
use Rattle.std.proofs.lemmas.List.Edits.{paste_none, paste-paste, length-paste}
use Rattle.std.proofs.lemmas.List.{length-take, length-drop, length-take-le, take-take, take-append-le, nil_from_length}
use Rattle.std.proofs.lemmas.Bool.{cases_lt, false≢true}
use Rattle.output.specs.declared.NoRoom.{NoRoom}
use Rattle.output.specs.Text.{room, after, Answered, Puts}

-- of a text only the part that is put counts
paste-front : (bytes : List ℕ) (used : ℕ) (text : List ℕ) (n : ℕ) → paste bytes used (take n text) n ≡ paste bytes used text n
paste-front bytes used text n = ap (λ t. take used bytes ++ t ++ drop (used + n) bytes) (take-take n n text (omega arith))

module _ (bytes : List ℕ) (used : ℕ) (a b : List ℕ) where
  -- a part that fits, and then the next: the mark is not past the end
  within : used ≤ length bytes → length a ≤ room bytes used → after (after bytes used a) (used + length a) b ≡ after bytes used (a ++ b)
  within inside fits =
      let first = paste bytes used a (length a) in
      let m = min (length b) (length bytes - (used + length a)) in
      let one : min (length a) (room bytes used) ≡ length a = omega arith in
      let long : length first ≡ length bytes = length-paste bytes used a (length a) (omega arith) (omega arith) in
      let count : min (length b) (length first - (used + length a)) ≡ m = omega arith in
      let total : min (length (a ++ b)) (room bytes used) ≡ length a + m = simp length-append (omega arith) in
      let part : m ≡ length (take m b) = sym (length-take-le m b (omega arith)) in
      let joined : paste first (used + length a) (take m b) m ≡ paste bytes used (a ++ take m b) (length a + m) = paste-paste bytes used a (take m b) (length a) m refl part inside in
      let texts : take (length a + m) (a ++ b) ≡ a ++ take m b = take-append-add a b m in
      cc (paste-front first (used + length a) b m, paste-front bytes used (a ++ b) (length a + m))

  -- the same, where the mark is past the end, so that only an empty part fits
  past : length bytes < used → length a ≤ room bytes used → after (after bytes used a) (used + length a) b ≡ after bytes used (a ++ b)
  past outside fits =
      let none : a ++ b ≡ b = ap (λ t. t ++ b) (nil_from_length a (omega arith)) in
      let zero : min (length a) (room bytes used) ≡ 0 = omega arith in
      let still : used + length a ≡ used = omega arith in
      cc (paste_none bytes used a)

  -- the same, wherever the mark is
  after_fitting : length a ≤ room bytes used → after (after bytes used a) (used + length a) b ≡ after bytes used (a ++ b)
  after_fitting fits = ⊎_elim (λ outside. past outside fits) (λ inside. within inside fits) (cases_lt (length bytes) used)

  -- a part that does not fit leaves what the whole text leaves
  after_refused : room bytes used < length a → after bytes used a ≡ after bytes used (a ++ b)
  after_refused long =
      let free = room bytes used in
      let part : min (length a) free ≡ free = omega arith in
      let whole : min (length (a ++ b)) free ≡ free = simp length-append (omega arith) in
      cc (take-append-le free a b (omega arith))

-- no byte is added or lost
length-after : (bytes : List ℕ) (used : ℕ) (text : List ℕ) → length (after bytes used text) ≡ length bytes
length-after bytes used text = simp (length-append, length-take, length-drop) (omega arith)

-- the mark that a text leaves: an accepted one moves it, a refused one leaves it where it was
abbrev pub settled : ℕ → ℕ → Result (Unit {0}) NoRoom → ℕ
settled used moved (Ok _) = moved
settled used moved (Err _) = used

module _ {bytes a bytes₁ : List ℕ} {used used₁ : ℕ} where
  -- an accepted part and then the rest, whatever its answer, are the whole text
  pub then_rest : {b bytes₂ : List ℕ} {used₂ : ℕ} {u : Unit {0}} {r : Result (Unit {0}) NoRoom} → Puts bytes used a bytes₁ used₁ (Ok u) → Puts bytes₁ used₁ b bytes₂ used₂ r → Puts bytes used (a ++ b) bytes₂ (settled used used₂ r) r
  then_rest {b} {bytes₂} {used₂} {r = r} p q =
      let fits : length a ≤ room bytes used = p.answer.0 in
      let moved : used₁ ≡ used + length a = p.answer.1 in
      let long : length bytes₁ ≡ length bytes = ap length p.left ∙ length-after bytes used a in
      let both : length (a ++ b) ≡ length a + length b = length-append a b in
      record {
        left = cc (p.left, q.left, moved, after_fitting bytes used a b fits);
        answer = elim r as (λ v. Answered (room bytes₁ used₁) (length b) used₁ used₂ v → Answered (room bytes used) (length (a ++ b)) used (settled used used₂ v) v) [
          | Ok v ↦ λ h. (omega arith, omega arith)
          | Err e ↦ λ h. (omega arith, refl)
        ] q.answer;
      }

  -- a refused part is a refusal of the whole text, whatever the rest
  pub refused_part : {e : NoRoom} → Puts bytes used a bytes₁ used₁ (Err e) → (rest : List ℕ) → Puts bytes used (a ++ rest) bytes₁ used₁ (Err e)
  refused_part p rest = record {
    left = p.left ∙ after_refused bytes used a rest p.answer.0;
    answer = (simp length-append (omega (arith, p.answer.0)), p.answer.1);
  }

-- a text of three parts, however they are put together
pub regrouped : (a b c : List ℕ) {bytes bytes' : List ℕ} {used used' : ℕ} {r : Result (Unit {0}) NoRoom} → Puts bytes used ((a ++ b) ++ c) bytes' used' r → Puts bytes used (a ++ (b ++ c)) bytes' used' r
regrouped a b c p = rw (← append_assoc a b c) p

-- a refused text under a guard, which puts the mark back
pub refused_guarded : {bytes text bytes' : List ℕ} {used used' held last : ℕ} {e : NoRoom} {r : Result (Unit {0}) NoRoom} → Puts bytes used text bytes' used' (Err e) → used ≡ held → last ≡ held → is_err r ≡ true → Puts bytes held text bytes' last r
refused_guarded {r = Ok v} p from back err = absurd (false≢true err)
refused_guarded {r = Err e} p from back err = record {
  left = rw (← from) p.left;
  answer = (omega (arith, p.answer.0), back);
}

-- an accepted text under a guard, which leaves the mark
pub accepted_guarded : {bytes text bytes' : List ℕ} {used used' held last : ℕ} {u v : Unit {0}} → Puts bytes used text bytes' used' (Ok u) → used ≡ held → last ≡ used' → Puts bytes held text bytes' last (Ok v)
accepted_guarded p from stays = record {
  left = rw (← from) p.left;
  answer = (omega (arith, p.answer.0), omega (arith, p.answer.1));
}
