-- What is read of a text that may be absent, and when it is refused.
use Rattle.std.proofs.Common.{◌≡◌, ℕ, false, not, ◌||◌, List, [], ◌∷◌, ◌++◌, is_ok, Some, None, Ok, Err, Option, Result, sym, refl, ap, ◌∙◌, arith}
use Rattle.std.specs.Option.{option_transpose}
use Rattle.std.proofs.lemmas.Bool.Decides.{nat_tests}
use Rattle.values.specs.declared.ValueFault.{ValueFault}
use Rattle.values.specs.Given.{given, Kind, readable, refused_as, Asked, some_unread}

module _ {X : Type 0} (read : List ℕ → Result X ValueFault) where
  tested : (r : Result X ValueFault) → not (is_ok r) ≡ not (is_ok (option_transpose (Some r)))
  tested (Ok x) = refl
  tested (Err e) = refl

  module _ (kind : Kind) (same : (t : List ℕ) → readable kind t ≡ is_ok (read t)) where
    refused_given : (t : Option (List ℕ)) → refused_as kind false t ≡ not (is_ok (given read t))
    refused_given None = refl
    refused_given (Some t) = ap not (same t) ∙ tested (read t)

    -- a text that is read is not refused
    pub read_ok : (u t : Option (List ℕ)) (o : Option X) → u ≡ t → Ok o ≡ given read u → refused_as kind false t ≡ false
    read_ok u t o is e = refused_given t ∙ sym (ap (λ (r : Result (Option X) ValueFault). not (is_ok r)) (e ∙ ap (given read) is))

-- of values one behind the other some cannot be read if of the first or of the second ones
pub unread_append : (xs ys : List Asked) → some_unread (xs ++ ys) ≡ (some_unread xs || some_unread ys)
unread_append [] ys = refl
unread_append (x ∷ xs) ys = let ih = unread_append xs ys in grind (arith, nat_tests)
