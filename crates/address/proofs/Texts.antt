-- Texts that are put piece by piece.
use Rattle.std.proofs.Common.{◌≡◌, ℕ, min, Bool, false, List, [], ◌∷◌, ◌++◌, Ok, Result, sym, refl, ap, ◌∙◌, subst, append_assoc, arith}
use lib.Seq.{paste}
use Rattle.std.proofs.lemmas.List.Edits.{paste_none}
use Rattle.output.specs.declared.NoRoom.{NoRoom}
use Rattle.output.specs.Text.{room, Puts}
use Rattle.template.specs.declared.Piece.{Piece}
use Rattle.template.specs.Pieces.{texts, AllAllowed}
use Rattle.template.specs.Reading.{pieces}
use Rattle.template.proofs.Walks.{pieces_text}
use Rattle.address.specs.declared.ExpandFault.{ExpandFault}
use Rattle.address.specs.Expansion.{Given, meanings, expanded, Expands}
use Rattle.address.specs.Putting.{PutsUnless, as_fault}

-- an equal text
pub for_text : {bytes text text' bytes' : List ℕ} {used used' : ℕ} {r : Result (Unit {0}) NoRoom} → text ≡ text' →
    Puts bytes used text bytes' used' r → Puts bytes used text' bytes' used' r
for_text {bytes} {bytes' = bytes'} {used} {used'} {r} e p = subst (λ t. Puts bytes used t bytes' used' r) e p

-- an empty text
pub put_nothing : (bytes : List ℕ) (used : ℕ) → Puts bytes used [] bytes used (Ok tt)
put_nothing bytes used =
    let none : min 0 (room bytes used) ≡ 0 = omega arith in
    record { left = paste_none bytes used [] ∙ ap (paste bytes used []) (sym none); answer = (omega arith, omega arith) }

-- one part more is done
pub more_done : {whole rest : List ℕ} (done part rest' : List ℕ) → whole ≡ done ++ rest → rest ≡ part ++ rest' →
    whole ≡ (done ++ part) ++ rest'
more_done done part rest' e f = e ∙ ap (λ s. done ++ s) f ∙ sym (append_assoc done part rest')

-- the answer of a call that puts a text unless its template is broken
pub put_unless : {b : Bool} {bytes text bytes' : List ℕ} {used used' : ℕ} {a : Result (Unit {0}) NoRoom}
    {r : Result (Unit {0}) ExpandFault} → b ≡ false → Puts bytes used text bytes' used' a → r ≡ as_fault a →
    PutsUnless b bytes used text bytes' used' r
put_unless {bytes = bytes} {text} {bytes'} {used} {used'} {a} {r} whole p e =
    subst (λ b. PutsUnless b bytes used text bytes' used' r) (sym whole) (a, p, e)

module _ (v : Given) where
  pieces_texts : (ps : List Piece) → AllAllowed ps → pieces (texts ps) ≡ ps
  pieces_texts [] h = refl
  pieces_texts (p ∷ ps) h = pieces_text p (texts ps) h.0 ∙ ap (λ qs. p ∷ qs) (pieces_texts ps h.1)

  pub expands : (t : List ℕ) → Expands t v
  expands t ps allowed e = ap (λ s. expanded s v) (sym e) ∙ ap (meanings v) (pieces_texts ps allowed)
