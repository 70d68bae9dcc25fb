-- Whole templates, piece by piece.
use Rattle.std.proofs.Common.{◌≡◌, ℕ, zero, suc, pred, ◌+◌, ◌-◌, Bool, true, false, not, eqb, List, [], ◌∷◌, ◌++◌, length, take, drop, Some, None, Decides, Option, sym, refl, ap, ◌∙◌, subst, ⊎_elim, append_assoc, append-nil, arith, eq-eqb, eqb-true, ne_eqb}
use borrow.Author.Tests.{clash}
use Rattle.std.specs.List.{list_any}
use Rattle.std.proofs.lemmas.List.{take_rest}
use Rattle.std.proofs.lemmas.List.Prefix.{front_rest}
use Rattle.std.proofs.lemmas.Bool.{or_cases, or_left, or_right}
use Rattle.std.proofs.lemmas.Bool.Decides.{Decides-at}
use Rattle.template.specs.declared.Identifier.{Identifier}
use Rattle.template.specs.declared.Identifier.TheVariants.{RepresentationId, Number, Bandwidth, Time}
use Rattle.template.specs.declared.Piece.{Piece}
use Rattle.template.specs.declared.Piece.TheVariants.{Byte, Dollar, Value}
use Rattle.template.specs.Pieces.{name_of, tag_text, text_of, texts, Allowed, AllAllowed}
use Rattle.std.specs.Result.{result_ok}
use Rattle.template.specs.Reading.{measured, next, AtPlace, ending, next_at, onward, walk, pieces, broken, place, is_value_of, stands}
use Rattle.template.specs.Laws.{Whole, Before}
use Rattle.template.proofs.Measured.{no_some, measured_some}
use Rattle.template.proofs.Sound.{next_front}
use Rattle.template.proofs.Complete.{next_complete}

walk_skip : (u rest : List ℕ) → walk (length u) (u ++ rest) ≡ walk 0 rest
walk_skip [] rest = refl
walk_skip (b ∷ u) rest = walk_skip u rest

-- the piece p, and then the pieces of what follows it
abbrev Then : Piece → List Piece × Bool → List Piece × Bool
Then p w = (p ∷ w.0, w.1)

walk_piece : (b : ℕ) (u rest : List ℕ) (p : Piece) → next (b ∷ (u ++ rest)) ≡ Some p → length (text_of p) ≡ suc (length u) →
    walk 0 (b ∷ (u ++ rest)) ≡ Then p (walk 0 rest)
walk_piece b u rest p e l =
    ap (λ o. onward o (λ k. walk k (u ++ rest))) e
    ∙ ap (λ n. Then p (walk (pred n) (u ++ rest))) l
    ∙ ap (Then p) (walk_skip u rest)

pub walk_text : (p : Piece) (rest : List ℕ) → Allowed p → walk 0 (text_of p ++ rest) ≡ Then p (walk 0 rest)
walk_text (Byte b) rest h = walk_piece b [] rest (Byte b) (next_complete (Byte b) rest h) refl
walk_text Dollar rest h = refl
walk_text (Value i tag) rest h =
    walk_piece 36 (name_of i ++ (tag_text tag ++ (36 ∷ []))) rest (Value i tag) (next_complete (Value i tag) rest h) refl

pub pieces_text : (p : Piece) (rest : List ℕ) → Allowed p → pieces (text_of p ++ rest) ≡ p ∷ pieces rest
pieces_text p rest h = ap (λ w. w.0) (walk_text p rest h)

pub broken_text : (p : Piece) (rest : List ℕ) → Allowed p → broken (text_of p ++ rest) ≡ broken rest
broken_text p rest h = ap (λ w. w.1) (walk_text p rest h)

-- the bytes of a piece behind its first one
drop-text : (p : Piece) (b : ℕ) (t : List ℕ) → drop (length (text_of p)) (b ∷ t) ≡ drop (pred (length (text_of p))) t
drop-text (Byte c) b t = refl
drop-text Dollar b t = refl
drop-text (Value i tag) b t = refl

begun_text : (b : ℕ) (t : List ℕ) (p : Piece) → next (b ∷ t) ≡ Some p → Allowed p × (b ∷ t ≡ text_of p ++ drop (pred (length (text_of p))) t)
begun_text b t p e =
    let f = next_front (b ∷ t) p e in
    (f.0, f.1.1 ∙ ap (λ s. text_of p ++ s) (sym (front_rest (b ∷ t) (text_of p) f.1.0 f.1.1) ∙ drop-text p b t))

-- a template without a break is what its pieces write
abbrev Written : List ℕ → ℕ → Type 0
Written t k = (walk k t).1 ≡ false → AllAllowed (walk k t).0 × (texts (walk k t).0 ≡ drop k t)

written_onward : (b : ℕ) (t : List ℕ) → ((k : ℕ) → Written t k) → (o : Option Piece) → next (b ∷ t) ≡ o →
    (onward o (λ k. walk k t)).1 ≡ false →
    AllAllowed (onward o (λ k. walk k t)).0 × (texts (onward o (λ k. walk k t)).0 ≡ b ∷ t)
written_onward b t more None e h = absurd (clash (sym h))
written_onward b t more (Some p) e h =
    let f = begun_text b t p e in
    let m = more (pred (length (text_of p))) h in
    ((f.0, m.0), ap (λ s. text_of p ++ s) m.1 ∙ sym f.1)

written : (t : List ℕ) (k : ℕ) → Written t k
written [] zero h = (tt, refl)
written [] (suc k) h = (tt, refl)
written (b ∷ t) (suc k) h = written t k h
written (b ∷ t) zero h = written_onward b t (λ k. written t k) (next (b ∷ t)) refl h

pub whole_from : (t : List ℕ) → broken t ≡ false → Whole t
whole_from t h = let w = written t 0 h in (pieces t, w.0, w.1)

texts_whole : (ps : List Piece) → AllAllowed ps → broken (texts ps) ≡ false
texts_whole [] h = refl
texts_whole (p ∷ ps) h = broken_text p (texts ps) h.0 ∙ texts_whole ps h.1

pub not_whole : (t : List ℕ) → broken t ≡ true → Whole t → ⊥
not_whole t h w = clash (sym (texts_whole w.0 w.1) ∙ ap broken w.2 ∙ h)

identifier_at : ℕ → Identifier
identifier_at zero = RepresentationId
identifier_at (suc zero) = Number
identifier_at (suc (suc zero)) = Bandwidth
identifier_at (suc (suc (suc n))) = Time

at_place : (i : Identifier) → identifier_at (place i) ≡ i
unfolding identifier_at
at_place RepresentationId = refl
at_place Number = refl
at_place Bandwidth = refl
at_place Time = refl

value_of : (i : Identifier) (p : Piece) → is_value_of i p ≡ true → (tag : Option ℕ) × (p ≡ Value i tag)
value_of i (Byte b) h = absurd (clash h)
value_of i Dollar h = absurd (clash h)
value_of i (Value j tag) h =
    (tag, ap (λ k. Value k tag) (sym (at_place j) ∙ ap identifier_at (eqb-true (place j) (place i) h) ∙ at_place i))

pub is_value : (i : Identifier) (tag : Option ℕ) → is_value_of i (Value i tag) ≡ true
is_value i tag = eq-eqb (place i) (place i) refl

-- an identifier that the reading finds stands before any break
module _ (i : Identifier) where
  abbrev Found : List ℕ → ℕ → Type 0
  Found t k = list_any (is_value_of i) (walk k t).0 ≡ true → Before i (drop k t)

  found_onward : (b : ℕ) (t : List ℕ) → ((k : ℕ) → Found t k) → (o : Option Piece) → next (b ∷ t) ≡ o →
      list_any (is_value_of i) (onward o (λ k. walk k t)).0 ≡ true → Before i (b ∷ t)
  found_onward b t more None e h = absurd (clash h)
  found_onward b t more (Some p) e h =
      let f = begun_text b t p e in
      let k = pred (length (text_of p)) in
      ⊎_elim
      (λ v. let q = value_of i p v in (
        [],
        q.0,
        drop k t,
        (subst Allowed q.1 f.0, tt),
        f.1 ∙ ap (λ x. text_of x ++ drop k t) q.1 ∙ ap (λ s. s ++ drop k t) (sym (append-nil (text_of (Value i q.0)))),
      ))
      (λ l. let m = more k l in (
        p ∷ m.0,
        m.1,
        m.2,
        (f.0, m.3),
        f.1 ∙ ap (λ s. text_of p ++ s) m.4 ∙ sym (append_assoc (text_of p) (texts (m.0 ++ (Value i m.1 ∷ []))) m.2),
      ))
      (or_cases (is_value_of i p) (list_any (is_value_of i) (walk k t).0) h)

  found : (t : List ℕ) (k : ℕ) → Found t k
  found [] k h = absurd (clash h)
  found (b ∷ t) (suc k) h = found t k h
  found (b ∷ t) zero h = found_onward b t (λ k. found t k) (next (b ∷ t)) refl h

  stands_from : (ps : List Piece) (tag : Option ℕ) (rest : List ℕ) → AllAllowed (ps ++ (Value i tag ∷ [])) →
      stands i (texts (ps ++ (Value i tag ∷ [])) ++ rest) ≡ true
  stands_from [] tag rest h =
      ap (stands i) (ap (λ s. s ++ rest) (append-nil (text_of (Value i tag))))
      ∙ ap (list_any (is_value_of i)) (pieces_text (Value i tag) rest h.0)
      ∙ or_left (is_value_of i (Value i tag)) (stands i rest) (is_value i tag)
  stands_from (p ∷ ps) tag rest h =
      ap (stands i) (append_assoc (text_of p) (texts (ps ++ (Value i tag ∷ []))) rest)
      ∙ ap (list_any (is_value_of i)) (pieces_text p (texts (ps ++ (Value i tag ∷ [])) ++ rest) h.0)
      ∙ or_right (is_value_of i p) (stands i (texts (ps ++ (Value i tag ∷ [])) ++ rest)) (stands_from ps tag rest h.1)

  pub stands_decides : (t : List ℕ) → Decides (stands i t) (Before i t)
  stands_decides t = (found t 0, λ m. ap (stands i) m.4 ∙ stands_from m.0 m.1 m.2 m.3)

-- behind the last piece the template breaks, or ends
pub broken_stop : (t : List ℕ) → pieces t ≡ [] → (r : Bool) → r ≡ eqb (length t) 0 → not r ≡ broken t
broken_stop [] e r is = ap not is
broken_stop (b ∷ t) e r is =
    ap not (is ∙ ne_eqb (suc (length t)) 0 (λ z. absurd (omega arith))) ∙ sym (go (next (b ∷ t)) e)
  where
    go : (o : Option Piece) → (onward o (λ k. walk k t)).0 ≡ [] → (onward o (λ k. walk k t)).1 ≡ true
    go None none = refl
    go (Some p) none = let z : ◌≡◌ {A = ℕ} 0 1 = cc in absurd (omega arith)

-- the pieces of a text that begins with the piece p, of n bytes
module _ (t : List ℕ) (p : Piece) (n : ℕ) (found : Some (p, n) ≡ measured text_of (next t)) where
  begins_it : (next t ≡ Some p) × (n ≡ length (text_of p))
  begins_it = measured_some text_of (next t) p n found

  begun : (t ≡ text_of p ++ drop n t) × Allowed p
  begun =
      let f = next_front t p begins_it.0 in
      let rest : drop n t ≡ f.1.0 = ap (λ k. drop k t) begins_it.1 ∙ front_rest t (text_of p) f.1.0 f.1.1 in
      (f.1.1 ∙ ap (λ s. text_of p ++ s) (sym rest), f.0)

  pub broken_first : broken (take (length t - n) (drop n t)) ≡ broken t
  broken_first = ap broken (take_rest t n) ∙ sym (ap broken begun.0 ∙ broken_text p (drop n t) begun.1)

  pub pieces_first : pieces t ≡ p ∷ pieces (take (length t - n) (drop n t))
  pieces_first = ap pieces begun.0 ∙ pieces_text p (drop n t) begun.1 ∙ ap (λ s. p ∷ pieces s) (sym (take_rest t n))

module _ (t : List ℕ) (r : Bool) where
  pub broken_tells : r ≡ broken t →
      record { value : r ≡ broken t; whole : r ≡ false → Whole t; torn : r ≡ true → Whole t → ⊥ }
  broken_tells e = record { value = e; whole = λ f. whole_from t (sym e ∙ f); torn = λ y. not_whole t (sym e ∙ y) }

  pub stands_tells : (i : Identifier) → r ≡ stands i t → record { value : r ≡ stands i t; before : Decides r (Before i t) }
  stands_tells i e = record { value = e; before = Decides-at r (stands i t) e (stands_decides i t) }

-- what an answer for the place 0 says of the pieces of a text
module _ (t : List ℕ) (r : AtPlace) (answered : r ≡ next_at 0 (drop 0 t)) where
  pub first_found : (p : Piece) (n : ℕ) → Some (Some (p, n)) ≡ result_ok r → Some (p, n) ≡ measured text_of (next t)
  first_found p n there = go t r answered there
    where
      of_next : (o : Option Piece) (q : AtPlace) → q ≡ ending 0 o → Some (Some (p, n)) ≡ result_ok q → Some (p, n) ≡ measured text_of o
      of_next None q e f = no_some (Some (p, n)) (sym (f ∙ ap result_ok e))
      of_next (Some x) q e f =
          let s : ◌≡◌ {A = Option (Option (Piece × ℕ))} (Some (Some (p, n))) (Some (Some (x, 0 + length (text_of x)))) = f ∙ ap result_ok e in
          let k : 0 + length (text_of x) ≡ length (text_of x) = omega arith in
          let l : ◌≡◌ {A = Option (Piece × ℕ)} (Some (p, n)) (Some (x, 0 + length (text_of x))) = cc in
          l ∙ ap (λ m. Some (x, m)) k

      go : (u : List ℕ) (q : AtPlace) → q ≡ next_at 0 u → Some (Some (p, n)) ≡ result_ok q → Some (p, n) ≡ measured text_of (next u)
      go [] q e f =
          let s : ◌≡◌ {A = Option (Option (Piece × ℕ))} (Some (Some (p, n))) (Some None) = f ∙ ap result_ok e in
          no_some {A = Piece × ℕ} (p, n) cc
      go (b ∷ u) q e f = of_next (next (b ∷ u)) q e f

  pub none_found : None ≡ result_ok r → pieces t ≡ []
  none_found none = go t r answered none
    where
      of_next : (u : List ℕ) (o : Option Piece) (q : AtPlace) → q ≡ ending 0 o → None ≡ result_ok q →
          (onward o (λ k. walk k u)).0 ≡ []
      of_next u None q e f = refl
      of_next u (Some x) q e f = no_some (Some (x, 0 + length (text_of x))) (f ∙ ap result_ok e)

      go : (u : List ℕ) (q : AtPlace) → q ≡ next_at 0 u → None ≡ result_ok q → pieces u ≡ []
      go [] q e f = refl
      go (b ∷ u) q e f = of_next u (next (b ∷ u)) q e f
