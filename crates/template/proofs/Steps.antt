-- What each way through the reading of a piece finds.
use Rattle.std.proofs.Common.{◌≡◌, ℕ, ◌+◌, Bool, true, false, cond, List, [], ◌∷◌, ◌++◌, length, get_or, drop, Some, None, codes, Option, sym, refl, ap, ◌∙◌, subst, arith, eq-eqb}
use Rattle.std.specs.Option.{option_or, MatchOption}
use Rattle.std.proofs.lemmas.List.{drop-drop, get_or-drop, length-append}
use Rattle.template.specs.declared.Identifier.{Identifier}
use Rattle.template.specs.declared.Identifier.TheVariants.{RepresentationId, Number, Bandwidth, Time}
use Rattle.template.specs.declared.Piece.{Piece}
use Rattle.template.specs.declared.Piece.TheVariants.{Byte, Value}
use Rattle.template.specs.Pieces.{name_of, width_text, text_of}
use Rattle.template.specs.Reading.{when, and_then, measured, begins, width_of, closing_text, closing_of, takes, value_with, value_of, values, marked, next}
use Rattle.template.proofs.Measured.{measured_or}

tag_length : (w : ℕ) → length (closing_text (Some w)) ≡ 4 + length (width_text w)
tag_length w = omega (arith, length-append (width_text w ++ codes "d") (codes "$"), length-append (width_text w) (codes "d"))

-- what stands at the place `at` of the text s, behind an identifier's name
module _ (s : List ℕ) (at : ℕ) where
  -- `%0`, and behind it the bytes a and b
  module _ (mark : begins (codes "$") (drop at s) ≡ false) (sign : begins (codes "%0") (drop at s) ≡ true)
      (a b : ℕ) (first : a ≡ get_or s (at + 2) 0) (second : b ≡ get_or s (at + 3) 0) where
    width_there : (o : Option ℕ) → width_of a b ≡ o → width_of (get_or (drop at s) 2 0) (get_or (drop at s) 3 0) ≡ o
    width_there o e =
        ap (λ x. width_of x (get_or (drop at s) 3 0)) (get_or-drop at s 2 0 ∙ sym first)
        ∙ ap (λ x. width_of a x) (get_or-drop at s 3 0 ∙ sym second)
        ∙ e

    -- the width w of n digits
    module _ (w n : ℕ) (width : (width_of a b ≡ Some w) × (n ≡ length (width_text w))) where
      end_there : (x : Bool) → begins (codes "d$") (drop (at + 2 + n) s) ≡ x →
          begins (codes "d$") (drop (2 + length (width_text w)) (drop at s)) ≡ x
      end_there x e =
          ap (begins (codes "d$"))
          (drop-drop (2 + length (width_text w)) at s ∙ ap (λ k. drop k s) (omega (arith, width.1)))
          ∙ e

      pub no_end : begins (codes "d$") (drop (at + 2 + n) s) ≡ false → closing_of (drop at s) ≡ None
      no_end e = rw (mark, sign, width_there (Some w) width.0, end_there false e) refl

      pub tag_there : begins (codes "d$") (drop (at + 2 + n) s) ≡ true →
          Some (Some w, 4 + n) ≡ measured closing_text (closing_of (drop at s))
      tag_there e =
          let f : closing_of (drop at s) ≡ Some (Some w) =
          rw (mark, sign, width_there (Some w) width.0, end_there true e) refl in
          ap (λ k. Some (Some w, k)) (omega (arith, width.1, tag_length w)) ∙ sym (ap (measured closing_text) f)

-- what stands in the text s behind a `$` and the name of i
module _ (s : List ℕ) (i : Identifier) (name : List ℕ) (is : name ≡ name_of i) (named : begins name (drop 1 s) ≡ true) where
  pub closing_there : (o : Option (Option ℕ)) → closing_of (drop (1 + length name) s) ≡ o →
      value_of i (drop 1 s) ≡ and_then o (value_with i)
  closing_there o e =
      let n : begins (name_of i) (drop 1 s) ≡ true = subst (λ m. begins m (drop 1 s) ≡ true) is named in
      let c : closing_of (drop (length (name_of i)) (drop 1 s)) ≡ o =
      ap closing_of (drop-drop (length (name_of i)) 1 s ∙ ap (λ m. drop (1 + length m) s) (sym is)) ∙ e in
      rw (n, c) refl

  pub value_there : (tag : Option ℕ) → closing_of (drop (1 + length name) s) ≡ Some tag → (x : Bool) → takes i tag ≡ x →
      value_of i (drop 1 s) ≡ when x (Some (Value i tag))
  value_there tag e x t = closing_there (Some tag) e ∙ ap (λ y. when y (Some (Value i tag))) t

  pub value_length : (tag : Option ℕ) (n : ℕ) → n ≡ length (closing_text tag) →
      1 + length name + n ≡ length (text_of (Value i tag))
  value_length tag n e = omega (arith, e, ap length is, length-append (name_of i) (closing_text tag))

-- a text that begins with a `$`
module _ (t : List ℕ) (dollar : get_or t 0 0 ≡ 36) where
  next_marked : next t ≡ marked (drop 1 t)
  next_marked = go t dollar
    where
      go : (t : List ℕ) → get_or t 0 0 ≡ 36 → next t ≡ marked (drop 1 t)
      go [] h = absurd (omega arith)
      go (b ∷ t) h = ap (λ x. cond x (marked t) (Some (Byte b))) (eq-eqb b 36 h)

  next_values : begins (codes "$") (drop 1 t) ≡ false → next t ≡ values (drop 1 t)
  next_values h = next_marked ∙ rw h refl

  pub measured_values : begins (codes "$") (drop 1 t) ≡ false →
      measured text_of (next t)
      ≡ option_or (option_or (option_or
      (measured text_of (value_of RepresentationId (drop 1 t)))
      (measured text_of (value_of Number (drop 1 t))))
      (measured text_of (value_of Bandwidth (drop 1 t))))
      (measured text_of (value_of Time (drop 1 t)))
  measured_values h =
      ap (measured text_of) (next_values h)
      ∙ spread (value_of RepresentationId (drop 1 t)) (value_of Number (drop 1 t)) (value_of Bandwidth (drop 1 t)) (value_of Time (drop 1 t))
    where
      spread : (a b c d : Option Piece) →
          measured text_of (option_or (option_or (option_or a b) c) d)
          ≡ option_or (option_or (option_or (measured text_of a) (measured text_of b)) (measured text_of c)) (measured text_of d)
      spread a b c d = simp (measured_or text_of)

-- what `or_else` answers, where its closure gives q
pub or_said : {A : Type 0} (o q r : Option A) (P : Type 0) → MatchOption o P (λ x. r ≡ Some x) → (P → r ≡ q) → r ≡ option_or o q
or_said None q r P h say = say h
or_said (Some x) q r P h say = h
