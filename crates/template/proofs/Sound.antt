-- The piece that the reading finds stands there.
use Rattle.std.proofs.Common.{◌≡◌, ℕ, ◌+◌, ◌-◌, ◌/◌, ◌%◌, ◌<◌, ◌≤◌, Bool, true, false, cond, ◌&&◌, eqb, ltb, leb, ◌⊎◌, List, [], ◌∷◌, ◌++◌, length, get_or, drop, Some, None, codes, Option, sym, refl, ap, ◌∙◌, subst, inl, inr, append_assoc, arith, le-ltb, lt-ltb, eqb-true, leb-true}
use borrow.Author.Tests.{clash, eqb-false}
use Rattle.std.specs.Option.{option_or}
use Rattle.std.proofs.lemmas.List.{drop-drop, get_or-drop}
use Rattle.std.proofs.lemmas.List.Prefix.{front_rest}
use Rattle.std.proofs.lemmas.Bool.{and_parts}
use Rattle.template.specs.declared.Identifier.{Identifier}
use Rattle.template.specs.declared.Identifier.TheVariants.{RepresentationId, Number, Bandwidth, Time}
use Rattle.template.specs.declared.Piece.{Piece}
use Rattle.template.specs.declared.Piece.TheVariants.{Byte, Dollar, Value}
use Rattle.template.specs.Pieces.{name_of, width_text, text_of, Width, AllowedTag, Allowed}
use Rattle.template.specs.Reading.{when, and_then, begins, is_digit, width_of, closing_text, end_of, tag_of, closing_of, takes, value_with, value_of, values, marked, next}
use Rattle.template.proofs.Measured.{no_some}
use Rattle.template.proofs.Words.{begins_front}

-- a width of one digit, or of two
abbrev WidthCases : ℕ → ℕ → ℕ → Type 0
WidthCases a b w =
    ((a ≡ 48 + w) × (1 ≤ w) × (w < 10))
    ⊎ ((a ≡ 48 + w / 10) × (b ≡ 48 + w % 10) × (10 ≤ w) × (w ≤ 20))

module _ (a b w : ℕ) where
  one_digit : (x : Bool) → (leb 49 a && leb a 57) ≡ x → when x (Some (a - 48)) ≡ Some w → WidthCases a b w
  one_digit true e k =
      let p = and_parts (leb 49 a) (leb a 57) e in
      let v : a - 48 ≡ w = cc in
      let l = leb-true 49 a p.0 in
      let m = leb-true a 57 p.1 in
      inl (omega arith, omega arith, omega arith)
  one_digit false e k = no_some w k

  twenty : (x : Bool) → (eqb a 50 && eqb b 48) ≡ x →
      cond x (Some 20) (when (leb 49 a && leb a 57) (Some (a - 48))) ≡ Some w → WidthCases a b w
  twenty true e k =
      let p = and_parts (eqb a 50) (eqb b 48) e in
      let v : 20 ≡ w = cc in
      let l = eqb-true a 50 p.0 in
      let m = eqb-true b 48 p.1 in
      inr (omega arith, omega arith, omega arith, omega arith)
  twenty false e k = one_digit (leb 49 a && leb a 57) refl k

  two_digits : (x : Bool) → (eqb a 49 && is_digit b) ≡ x →
      cond x (Some (10 + (b - 48))) (cond (eqb a 50 && eqb b 48) (Some 20) (when (leb 49 a && leb a 57) (Some (a - 48)))) ≡ Some w →
      WidthCases a b w
  two_digits true e k =
      let p = and_parts (eqb a 49) (is_digit b) e in
      let q = and_parts (leb 48 b) (leb b 57) p.1 in
      let v : 10 + (b - 48) ≡ w = cc in
      let f = eqb-true a 49 p.0 in
      let l = leb-true 48 b q.0 in
      let m = leb-true b 57 q.1 in
      inr (omega arith, omega arith, omega arith, omega arith)
  two_digits false e k = twenty (eqb a 50 && eqb b 48) refl k

  width_cases : width_of a b ≡ Some w → WidthCases a b w
  width_cases h = two_digits (eqb a 49 && is_digit b) refl h

-- a text that begins with the other, and goes on
abbrev Front : List ℕ → List ℕ → Type 0
Front t s = (rest : List ℕ) × (t ≡ s ++ rest)

-- which of its two forms the text of a width has
by_length : (w : ℕ) (P : List ℕ → Type 0) (x : Bool) → ltb w 10 ≡ x →
    P (cond x ((48 + w) ∷ []) ((48 + w / 10) ∷ ((48 + w % 10) ∷ []))) → P (width_text w)
by_length w P x e h = subst (λ y. P (cond y ((48 + w) ∷ []) ((48 + w / 10) ∷ ((48 + w % 10) ∷ [])))) (sym e) h

width_by_cases : (w : ℕ) (t : List ℕ) → WidthCases (get_or t 0 0) (get_or t 1 0) w → Width w × Front t (width_text w)
width_by_cases w [] (inl k) = absurd (omega arith)
width_by_cases w [] (inr k) = absurd (omega arith)
width_by_cases w (a ∷ t) (inl k) =
    ((k.1, omega arith), by_length w (Front (a ∷ t)) true (lt-ltb w 10 k.2) (t, ap (λ x. x ∷ t) k.0))
width_by_cases w (a ∷ []) (inr k) = absurd (omega arith)
width_by_cases w (a ∷ (b ∷ t)) (inr k) = (
  (omega arith, k.3),
  by_length w (Front (a ∷ (b ∷ t))) false (le-ltb w 10 k.2)
      (t, ap (λ x. x ∷ (b ∷ t)) k.0 ∙ ap (λ x. (48 + w / 10) ∷ (x ∷ t)) k.1),
)

width_front : (t : List ℕ) (w : ℕ) → width_of (get_or t 0 0) (get_or t 1 0) ≡ Some w → Width w × Front t (width_text w)
width_front t w h = width_by_cases w t (width_cases (get_or t 0 0) (get_or t 1 0) w h)

-- a tag of a width from 1 to 20, or none
abbrev pub WidthTag : Option ℕ → Type 0
WidthTag None = Unit {0}
WidthTag (Some w) = Width w

-- the parts of a tag and its `$`
module _ (t : List ℕ) (w : ℕ) (sign : begins (codes "%0") t ≡ true)
    (width : width_of (get_or t 2 0) (get_or t 3 0) ≡ Some w)
    (ends : begins (codes "d$") (drop (2 + length (width_text w)) t) ≡ true) where
  digits_front : Width w × Front (drop 2 t) (width_text w)
  digits_front =
      width_front (drop 2 t) w
      (ap (λ a. width_of a (get_or (drop 2 t) 1 0)) (get_or-drop 2 t 0 0)
      ∙ ap (λ b. width_of (get_or t 2 0) b) (get_or-drop 2 t 1 0)
      ∙ width)

  end_front : (rest : List ℕ) → drop 2 t ≡ width_text w ++ rest → rest ≡ codes "d$" ++ drop 2 rest
  end_front rest e =
      let d : drop (2 + length (width_text w)) t ≡ rest =
      sym (drop-drop (length (width_text w)) 2 t) ∙ front_rest (drop 2 t) (width_text w) rest e in
      begins_front (codes "d$") rest (subst (λ s. begins (codes "d$") s ≡ true) d ends)

  tag_front : Width w × Front t (closing_text (Some w))
  tag_front =
      let f = digits_front in
      let rest = f.1.0 in (
        f.0,
        (
          drop 2 rest,
          begins_front (codes "%0") t sign
              ∙ ap (λ s. codes "%0" ++ s) (f.1.1 ∙ ap (λ s. width_text w ++ s) (end_front rest f.1.1))
              ∙ regroup (width_text w) (drop 2 rest),
        ),
      )
    where
      regroup : (d rest : List ℕ) → codes "%0" ++ (d ++ (codes "d$" ++ rest)) ≡ ((codes "%0" ++ (d ++ codes "d")) ++ codes "$") ++ rest
      regroup d rest = simp append_assoc

-- a text that begins with the tag and a `$`
abbrev Closed : List ℕ → Option ℕ → Type 0
Closed t tag = WidthTag tag × Front t (closing_text tag)

module _ (t : List ℕ) (tag : Option ℕ) where
  module _ (sign : begins (codes "%0") t ≡ true) where
    by_end : (w : ℕ) → width_of (get_or t 2 0) (get_or t 3 0) ≡ Some w → (x : Bool) →
        begins (codes "d$") (drop (2 + length (width_text w)) t) ≡ x → when x (Some (Some w)) ≡ Some tag → Closed t tag
    by_end w width true e k = let v : Some w ≡ tag = cc in subst (Closed t) v (tag_front t w sign width e)
    by_end w width false e k = no_some tag k

    by_width : (o : Option ℕ) → width_of (get_or t 2 0) (get_or t 3 0) ≡ o → and_then o (end_of t) ≡ Some tag → Closed t tag
    by_width None e k = no_some tag k
    by_width (Some w) e k = by_end w e (begins (codes "d$") (drop (2 + length (width_text w)) t)) refl k

  by_sign : (x : Bool) → begins (codes "%0") t ≡ x →
      when x (and_then (width_of (get_or t 2 0) (get_or t 3 0)) (end_of t)) ≡ Some tag → Closed t tag
  by_sign true e k = by_width e (width_of (get_or t 2 0) (get_or t 3 0)) refl k
  by_sign false e k = no_some tag k

  by_mark : (x : Bool) → begins (codes "$") t ≡ x → cond x (Some None) (tag_of t) ≡ Some tag → Closed t tag
  by_mark true e k =
      let v : None ≡ tag = cc in subst (Closed t) v (tt, (drop 1 t, begins_front (codes "$") t e))
  by_mark false e k = by_sign (begins (codes "%0") t) refl k

  closing_front : closing_of t ≡ Some tag → Closed t tag
  closing_front h = by_mark (begins (codes "$") t) refl h

allowed_tag : (i : Identifier) (tag : Option ℕ) → takes i tag ≡ true → WidthTag tag → AllowedTag i tag
allowed_tag i None h k = tt
allowed_tag RepresentationId (Some w) h k = clash h
allowed_tag Number (Some w) h k = k
allowed_tag Bandwidth (Some w) h k = k
allowed_tag Time (Some w) h k = k

-- a text that begins with the piece, one that is allowed
abbrev Begun : List ℕ → Piece → Type 0
Begun t p = Allowed p × Front t (text_of p)

module _ (i : Identifier) (t : List ℕ) (p : Piece) where
  module _ (name : begins (name_of i) t ≡ true) where
    by_takes : (tag : Option ℕ) → closing_of (drop (length (name_of i)) t) ≡ Some tag → (x : Bool) →
        takes i tag ≡ x → when x (Some (Value i tag)) ≡ Some p → Begun (36 ∷ t) p
    by_takes tag close true e k =
        let v : Value i tag ≡ p = cc in
        let f = closing_front (drop (length (name_of i)) t) tag close in
        subst (Begun (36 ∷ t)) v (
          allowed_tag i tag e f.0,
          (
            f.1.0,
            ap (λ s. 36 ∷ s)
                (begins_front (name_of i) t name
                ∙ ap (λ s. name_of i ++ s) f.1.1
                ∙ sym (append_assoc (name_of i) (closing_text tag) f.1.0)),
          ),
        )
    by_takes tag close false e k = no_some p k

    by_closing : (o : Option (Option ℕ)) → closing_of (drop (length (name_of i)) t) ≡ o →
        and_then o (value_with i) ≡ Some p → Begun (36 ∷ t) p
    by_closing None e k = no_some p k
    by_closing (Some tag) e k = by_takes tag e (takes i tag) refl k

  by_name : (x : Bool) → begins (name_of i) t ≡ x →
      when x (and_then (closing_of (drop (length (name_of i)) t)) (value_with i)) ≡ Some p → Begun (36 ∷ t) p
  by_name true e k = by_closing e (closing_of (drop (length (name_of i)) t)) refl k
  by_name false e k = no_some p k

  value_front : value_of i t ≡ Some p → Begun (36 ∷ t) p
  value_front h = by_name (begins (name_of i) t) refl h

either_front : (t : List ℕ) (p : Piece) (o q : Option Piece) → (o ≡ Some p → Begun t p) → (q ≡ Some p → Begun t p) →
    option_or o q ≡ Some p → Begun t p
either_front t p None q f g h = g h
either_front t p (Some x) q f g h = f h

values_front : (t : List ℕ) (p : Piece) → values t ≡ Some p → Begun (36 ∷ t) p
values_front t p =
    either_front (36 ∷ t) p (option_or (option_or (value_of RepresentationId t) (value_of Number t)) (value_of Bandwidth t)) (value_of Time t)
    (either_front (36 ∷ t) p (option_or (value_of RepresentationId t) (value_of Number t)) (value_of Bandwidth t)
    (either_front (36 ∷ t) p (value_of RepresentationId t) (value_of Number t)
    (value_front RepresentationId t p)
    (value_front Number t p))
    (value_front Bandwidth t p))
    (value_front Time t p)

marked_front : (t : List ℕ) (p : Piece) → marked t ≡ Some p → Begun (36 ∷ t) p
marked_front t p h = go (begins (codes "$") t) refl h
  where
    go : (x : Bool) → begins (codes "$") t ≡ x → cond x (Some Dollar) (values t) ≡ Some p → Begun (36 ∷ t) p
    go true e k =
        let v : Dollar ≡ p = cc in
        subst (Begun (36 ∷ t)) v (tt, (drop 1 t, ap (λ s. 36 ∷ s) (begins_front (codes "$") t e)))
    go false e k = values_front t p k

pub next_front : (t : List ℕ) (p : Piece) → next t ≡ Some p → Begun t p
next_front [] p h = no_some p h
next_front (b ∷ t) p h = go (eqb b 36) refl h
  where
    go : (x : Bool) → eqb b 36 ≡ x → cond x (marked t) (Some (Byte b)) ≡ Some p → Begun (b ∷ t) p
    go true e k = subst (λ y. Begun (y ∷ t) p) (sym (eqb-true b 36 e)) (marked_front t p k)
    go false e k = let v : Byte b ≡ p = cc in subst (Begun (b ∷ t)) v (eqb-false b 36 e, (t, refl))
