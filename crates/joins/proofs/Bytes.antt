-- The bytes of a base URL.
use Rattle.std.proofs.Common.{◌≡◌, ℕ, suc, ◌-◌, eqb, List, [], ◌∷◌, length, drop, refl, ap, ◌∙◌, arith}
use Rattle.std.specs.Cmp.Lexicographic.{pointwise}
use Rattle.std.specs.List.{ends_with}
use Rattle.std.proofs.lemmas.Bool.Decides.{nat_tests}
use Rattle.joins.specs.Joints.{ends_in_slash}

-- whether a text ends in '/' is what `ends_with` answers
pub ends_last : (text : List ℕ) → ends_with eqb text (47 ∷ []) ≡ ends_in_slash text
ends_last [] = refl
ends_last (b ∷ []) = grind (arith, nat_tests)
ends_last (b ∷ c ∷ bs) =
    let e : length (b ∷ c ∷ bs) - 1 ≡ suc (length (c ∷ bs) - 1) = omega arith in
    ap (λ i. pointwise eqb (47 ∷ []) (drop i (b ∷ c ∷ bs))) e ∙ ends_last (c ∷ bs)
