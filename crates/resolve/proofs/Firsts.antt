-- The first refusal that applies.
use Rattle.std.proofs.Common.{◌≡◌, Bool, true, false, cond, List, [], ◌∷◌, ◌++◌, Some, None, Option, refl, ap, ◌∙◌}
use Rattle.std.specs.Option.{option_or}
use Rattle.resolve.specs.Outcome.{Condition, first_of, IsFirst}
use Rattle.resolve.specs.declared.fault.ResolveFault.{ResolveFault}

-- what the first refusal that applies says of the conditions
pub is_first : (cs : List Condition) → IsFirst cs (first_of cs)
is_first [] = tt
is_first (c ∷ cs) = met c.0 c.1 cs (is_first cs)
  where
    unmet : (o : Option ResolveFault) (e : ResolveFault) (cs : List Condition) → IsFirst cs o → IsFirst ((false, e) ∷ cs) o
    unmet None e cs h = (refl, h)
    unmet (Some f) e cs h = ((false, e) ∷ h.0, h.1, ap (λ ds. (false, e) ∷ ds) h.2, (refl, h.3))

    met : (b : Bool) (e : ResolveFault) (cs : List Condition) → IsFirst cs (first_of cs) → IsFirst ((b, e) ∷ cs) (cond b (Some e) (first_of cs))
    met true e cs h = ([], cs, refl, tt)
    met false e cs h = unmet (first_of cs) e cs h

cond_or : (b : Bool) (f : ResolveFault) (o q : Option ResolveFault) → cond b (Some f) (option_or o q) ≡ option_or (cond b (Some f) o) q
cond_or true f o q = refl
cond_or false f o q = refl

-- of conditions one behind the other
first_both : (ps qs : List Condition) → first_of (ps ++ qs) ≡ option_or (first_of ps) (first_of qs)
first_both [] qs = refl
first_both (p ∷ ps) qs = ap (cond p.0 (Some p.1)) (first_both ps qs) ∙ cond_or p.0 p.1 (first_of ps) (first_of qs)

pub first_append : (ps qs : List Condition) → first_of ps ≡ None → first_of (ps ++ qs) ≡ first_of qs
first_append ps qs h = first_both ps qs ∙ ap (λ o. option_or o (first_of qs)) h

pub first_stops : (ps qs : List Condition) (f : ResolveFault) → first_of ps ≡ Some f → first_of (ps ++ qs) ≡ Some f
first_stops ps qs f h = first_both ps qs ∙ ap (λ o. option_or o (first_of qs)) h
