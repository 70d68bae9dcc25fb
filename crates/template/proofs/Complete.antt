-- The reading finds the piece that stands there.
use Rattle.std.proofs.Common.{◌≡◌, ℕ, zero, suc, ◌≤◌, cond, List, ◌++◌, Some, None, sym, refl, ap, subst, ⊎_elim, arith, ne_eqb}
use Rattle.std.specs.Option.{option_or}
use Rattle.std.proofs.lemmas.Bool.{cases_eq}
use Rattle.template.specs.declared.Identifier.TheVariants.{RepresentationId, Number, Bandwidth, Time}
use Rattle.template.specs.declared.Piece.{Piece}
use Rattle.template.specs.declared.Piece.TheVariants.{Byte, Dollar, Value}
use Rattle.template.specs.Pieces.{text_of, Width, Allowed}
use Rattle.template.specs.Reading.{and_then, closing_text, closing_of, value_with, marked, next}

-- P holds of each number from 1 to n
abbrev Upto : (ℕ → Type 0) → ℕ → Type 0
Upto P zero = Unit {0}
Upto P (suc n) = Upto P n × P (suc n)

upto : (P : ℕ → Type 0) (n : ℕ) → Upto P n → (w : ℕ) → 1 ≤ w → w ≤ n → P w
upto P zero all w low high = absurd (omega arith)
upto P (suc n) all w low high =
    ⊎_elim (λ e. subst P (sym e) all.1) (λ apart. upto P n all.0 w low (omega arith)) (cases_eq w (suc n))

-- the reading of a closing with a tag of the width w
abbrev Tagged : ℕ → Type 0
Tagged w = (rest : List ℕ) → closing_of (closing_text (Some w) ++ rest) ≡ Some (Some w)

tagged_to_20 : Upto Tagged 20
tagged_to_20 = (
  (
    (
      (
        (
          (
            (
              (
                (
                  (
                    (
                      (
                        (
                          (
                            (
                              (
                                (
                                  (
                                    (
                                      (
                                        tt,
                                        λ _. refl,
                                      ),
                                      λ _. refl,
                                    ),
                                    λ _. refl,
                                  ),
                                  λ _. refl,
                                ),
                                λ _. refl,
                              ),
                              λ _. refl,
                            ),
                            λ _. refl,
                          ),
                          λ _. refl,
                        ),
                        λ _. refl,
                      ),
                      λ _. refl,
                    ),
                    λ _. refl,
                  ),
                  λ _. refl,
                ),
                λ _. refl,
              ),
              λ _. refl,
            ),
            λ _. refl,
          ),
          λ _. refl,
        ),
        λ _. refl,
      ),
      λ _. refl,
    ),
    λ _. refl,
  ),
  λ _. refl,
)

closing_complete : (w : ℕ) → Width w → Tagged w
closing_complete w h = upto Tagged 20 tagged_to_20 w h.0 h.1

pub next_complete : (p : Piece) (rest : List ℕ) → Allowed p → next (text_of p ++ rest) ≡ Some p
next_complete (Byte b) rest h = ap (λ x. cond x (marked rest) (Some (Byte b))) (ne_eqb b 36 h)
next_complete Dollar rest h = refl
next_complete (Value RepresentationId None) rest h = refl
next_complete (Value RepresentationId (Some w)) rest h = absurd h
next_complete (Value Number None) rest h = refl
next_complete (Value Number (Some w)) rest h =
    ap (λ o. option_or (option_or (and_then o (value_with Number)) None) None) (closing_complete w h rest)
next_complete (Value Bandwidth None) rest h = refl
next_complete (Value Bandwidth (Some w)) rest h =
    ap (λ o. option_or (and_then o (value_with Bandwidth)) None) (closing_complete w h rest)
next_complete (Value Time None) rest h = refl
next_complete (Value Time (Some w)) rest h = ap (λ o. and_then o (value_with Time)) (closing_complete w h rest)
