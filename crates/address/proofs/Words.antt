-- The first bytes of a text.
use Rattle.std.proofs.Common.{◌≡◌, ℕ, min, List, [], ◌∷◌, length, refl, ap, arith}
use lib.Seq.{paste}
use Rattle.output.specs.Text.{after}
use Rattle.address.specs.Expansion.{front_of}
use Rattle.address.specs.Joining.{absolute}

-- eight bytes, none put yet
abbrev pub blank : List ℕ
blank = 0 ∷ (0 ∷ (0 ∷ (0 ∷ (0 ∷ (0 ∷ (0 ∷ (0 ∷ [])))))))

-- a text that is put into them leaves its first bytes
pub after_blank : (text : List ℕ) → after blank 0 text ≡ front_of text
after_blank [] = refl
after_blank (a ∷ []) = refl
after_blank (a ∷ (b ∷ [])) = refl
after_blank (a ∷ (b ∷ (c ∷ []))) = refl
after_blank (a ∷ (b ∷ (c ∷ (d ∷ [])))) = refl
after_blank (a ∷ (b ∷ (c ∷ (d ∷ (e ∷ []))))) = refl
after_blank (a ∷ (b ∷ (c ∷ (d ∷ (e ∷ (f ∷ [])))))) = refl
after_blank (a ∷ (b ∷ (c ∷ (d ∷ (e ∷ (f ∷ (g ∷ []))))))) = refl
after_blank (a ∷ (b ∷ (c ∷ (d ∷ (e ∷ (f ∷ (g ∷ (h ∷ rest)))))))) =
    let text = a ∷ (b ∷ (c ∷ (d ∷ (e ∷ (f ∷ (g ∷ (h ∷ rest))))))) in
    let all : min (length text) 8 ≡ 8 = omega arith in
    ap (paste blank 0 text) all

-- they tell whether it is absolute
pub absolute_front : (text : List ℕ) → absolute (front_of text) ≡ absolute text
absolute_front [] = refl
absolute_front (a ∷ []) = refl
absolute_front (a ∷ (b ∷ [])) = refl
absolute_front (a ∷ (b ∷ (c ∷ []))) = refl
absolute_front (a ∷ (b ∷ (c ∷ (d ∷ [])))) = refl
absolute_front (a ∷ (b ∷ (c ∷ (d ∷ (e ∷ []))))) = refl
absolute_front (a ∷ (b ∷ (c ∷ (d ∷ (e ∷ (f ∷ [])))))) = refl
absolute_front (a ∷ (b ∷ (c ∷ (d ∷ (e ∷ (f ∷ (g ∷ []))))))) = refl
absolute_front (a ∷ (b ∷ (c ∷ (d ∷ (e ∷ (f ∷ (g ∷ (h ∷ rest)))))))) = refl
