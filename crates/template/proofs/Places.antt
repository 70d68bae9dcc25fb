-- What an answer says of a place of a template.
use Rattle.std.proofs.Common.{◌≡◌, ℕ, ◌+◌, ◌-◌, ◌<◌, ◌≤◌, List, [], ◌∷◌, ◌++◌, length, take, drop, Some, None, Ok, Err, Option, sym, ap, ◌∙◌, arith}
use Rattle.std.proofs.lemmas.List.Prefix.{front_rest, front_fits}
use Rattle.std.proofs.lemmas.List.{drop-drop, length-drop, at_drop_all, take_rest}
use Rattle.template.specs.declared.Piece.{Piece}
use Rattle.template.specs.declared.Piece.TheVariants.{Byte, Dollar, Value}
use Rattle.template.specs.Pieces.{text_of}
use Rattle.template.specs.Reading.{measured, next, AtPlace, a_break, ending, next_at}
use Rattle.template.specs.Laws.{Told, Only}
use Rattle.template.proofs.Measured.{no_some, measured_some, measured_none}
use Rattle.template.proofs.Sound.{next_front}
use Rattle.template.proofs.Complete.{next_complete}

pub text_some : (p : Piece) → 0 < length (text_of p)
text_some (Byte b) = omega arith
text_some Dollar = omega arith
text_some (Value i tag) = omega arith

-- what `piece_at` is to ensure of its answer
abbrev pub Answer : List ℕ → ℕ → AtPlace → Type 0
Answer s at r = record { value : r ≡ next_at at (drop at s); told : Told s at r; only : Only s at r }

module _ (s : List ℕ) (at : ℕ) where
  pub at_end : length s ≤ at → Answer s at (Ok None)
  at_end h = record {
    value = sym (at_drop_all (next_at at) s at h);
    told = h;
    only = λ p rest ok e. absurd (omega (arith, text_some p, front_fits (drop at s) (text_of p) rest e, length-drop at s));
  }

  next_at_lem : (t : List ℕ) (o : Option Piece) → 0 < length t → next t ≡ o → next_at at t ≡ ending at o
  next_at_lem [] o h e = absurd (omega arith)
  next_at_lem (b ∷ t) o h e = ap (ending at) e

  module _ (inside : at < length s) where
    more : 0 < length (drop at s)
    more = omega (arith, length-drop at s)

    whole_rest : {A : Type 0} (o : Option A) (f : List ℕ → Option A) → o ≡ f (take (length s - at) (drop at s)) → o ≡ f (drop at s)
    whole_rest o f e = e ∙ ap f (take_rest s at)

    module _ (p : Piece) (n : ℕ) (found : Some (p, n) ≡ measured text_of (next (take (length s - at) (drop at s)))) where
      is_next : (next (drop at s) ≡ Some p) × (n ≡ length (text_of p))
      is_next = measured_some text_of (next (drop at s)) p n (whole_rest (Some (p, n)) (λ t. measured text_of (next t)) found)

      pub fits : at + n ≤ length s
      fits =
          let f = next_front (drop at s) p is_next.0 in
          omega (arith, is_next.1, front_fits (drop at s) (text_of p) f.1.0 f.1.1, length-drop at s)

      text_there : drop at s ≡ text_of p ++ drop (at + n) s
      text_there =
          let f = next_front (drop at s) p is_next.0 in
          let e : f.1.0 ≡ drop (at + n) s =
          sym (front_rest (drop at s) (text_of p) f.1.0 f.1.1)
          ∙ drop-drop (length (text_of p)) at s
          ∙ ap (λ k. drop (at + k) s) (sym is_next.1) in
          f.1.1 ∙ ap (λ t. text_of p ++ t) e

      pub at_piece : Answer s at (Ok (Some (p, at + n)))
      at_piece = record {
        value = ap (λ k. Ok (Some (p, at + k))) is_next.1 ∙ sym (next_at_lem (drop at s) (Some p) more is_next.0);
        told = record {
          allowed = (next_front (drop at s) p is_next.0).0;
          text = text_there;
          long = ap (λ k. at + k) is_next.1;
          more = omega (arith, is_next.1, text_some p);
          within = fits;
        };
        only = λ q rest ok e.
            let same : Some p ≡ Some q = sym is_next.0 ∙ ap next e ∙ next_complete q rest ok in
            let eq : p ≡ q = cc in
            ap (λ k. Ok (Some (p, at + k))) is_next.1 ∙ ap (λ x. Ok (Some (x, at + length (text_of x)))) eq;
      }

    pub at_break : None ≡ measured text_of (next (take (length s - at) (drop at s))) → Answer s at (Err a_break)
    at_break found =
        let none : next (drop at s) ≡ None = measured_none text_of (next (drop at s)) (whole_rest None (λ t. measured text_of (next t)) found) in
        record {
          value = sym (next_at_lem (drop at s) None more none);
          told = record { inside = inside; none = λ p rest ok e. no_some p (sym none ∙ ap next e ∙ next_complete p rest ok) };
          only = λ p rest ok e. no_some p (sym none ∙ ap next e ∙ next_complete p rest ok);
        }
