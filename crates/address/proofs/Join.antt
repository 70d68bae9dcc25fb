-- How the parts of an address are joined.
use Rattle.std.proofs.Common.{◌≡◌, ℕ, zero, suc, ◌+◌, ◌-◌, ◌<◌, Bool, true, false, cond, ◌||◌, List, [], ◌∷◌, ◌++◌, length, take, drop, get_or, Some, None, Option, sym, refl, ap, ◌∙◌, subst, inl, inr, ⊎_elim, append-nil, append_assoc, Bor, arith, add-one, drop-cons}
use Rattle.std.proofs.lemmas.List.{length-drop, take_all}
use Rattle.std.proofs.lemmas.Bool.{or_parts, or_right, both_ways, cond-false, false≢true}
use Rattle.address.specs.declared.Parts.{Parts}
use Rattle.address.specs.Expansion.{Given, expanded}
use Rattle.address.specs.Joining.{absolute, some_absolute, from_last, together, joined, part_in, present, parts_with, absolute_in, JoinedFrom, Begun}

-- the base URLs of an address, in their order
abbrev pub bases_of : Parts → List (Option (Bor (List ℕ)))
bases_of p = p.mpd ∷ (p.period ∷ (p.set ∷ (p.representation ∷ [])))

-- with no absolute part all are joined
pub from_none : (parts : List (List ℕ)) → some_absolute parts ≡ false → from_last parts ≡ parts
from_none [] none = refl
from_none (part ∷ parts) none =
    cond-false (some_absolute parts) (from_last parts) (part ∷ parts) (or_parts (absolute part) (some_absolute parts) none).1

-- whether one of some parts is absolute, where a base is in front of them
some_base : (base : Option (Bor (List ℕ))) (parts : List (List ℕ)) →
    some_absolute (part_in base ++ parts) ≡ (absolute_in base || some_absolute parts)
some_base None parts = refl
some_base (Some text) parts = refl

some_more : (base : Option (Bor (List ℕ))) (bases : List (Option (Bor (List ℕ)))) (last : List ℕ) →
    some_absolute (present (base ∷ bases) ++ (last ∷ [])) ≡ (absolute_in base || some_absolute (present bases ++ (last ∷ [])))
some_more base bases last =
    ap some_absolute (append_assoc (part_in base) (present bases) (last ∷ [])) ∙ some_base base (present bases ++ (last ∷ []))

-- one of the base URLs is absolute, or the last part, or none of them
some_at : (bases : List (Option (Bor (List ℕ)))) (last : List ℕ) (k : ℕ) → absolute_in (get_or bases k None) ≡ true →
    some_absolute (present bases ++ (last ∷ [])) ≡ true
some_at [] last k e = absurd (false≢true e)
some_at (base ∷ bases) last zero e = some_more base bases last ∙ ap (λ b. b || some_absolute (present bases ++ (last ∷ []))) e
some_at (base ∷ bases) last (suc k) e = some_more base bases last ∙ or_right (absolute_in base) _ (some_at bases last k e)

some_last : (bases : List (Option (Bor (List ℕ)))) (last : List ℕ) → absolute last ≡ true → some_absolute (present bases ++ (last ∷ [])) ≡ true
some_last [] last e = ap (λ b. b || false) e
some_last (base ∷ bases) last e =
    some_more base bases last ∙ or_right (absolute_in base) _ (some_last bases last e)

some_none : (bases : List (Option (Bor (List ℕ)))) (last : List ℕ) → absolute last ≡ false →
    ((k : ℕ) → k < length bases → absolute_in (get_or bases k None) ≡ false) → some_absolute (present bases ++ (last ∷ [])) ≡ false
some_none [] last e none = ap (λ b. b || false) e
some_none (base ∷ bases) last e none =
    let rest = some_none bases last e (λ k h. none (suc k) (omega arith)) in
    let here : absolute_in base ≡ false = none 0 (omega arith) in
    some_more base bases last ∙ ap (λ b. b || some_absolute (present bases ++ (last ∷ []))) here ∙ rest

-- a base in front of parts of which one is absolute is not joined, and in front of others it is
from_later : (base : Option (Bor (List ℕ))) (parts : List (List ℕ)) → some_absolute parts ≡ true → from_last (part_in base ++ parts) ≡ from_last parts
from_later None parts e = refl
from_later (Some text) parts e = ap (λ b. cond b (from_last parts) (text.now ∷ parts)) e

from_here : (base : Option (Bor (List ℕ))) (parts : List (List ℕ)) → some_absolute parts ≡ false → from_last (part_in base ++ parts) ≡ part_in base ++ parts
from_here None parts e = from_none parts e
from_here (Some text) parts e = ap (λ b. cond b (from_last parts) (text.now ∷ parts)) e

-- the place, seen from one base URL on
place_rest : (base : Option (Bor (List ℕ))) (bases : List (Option (Bor (List ℕ)))) (later : Bool) (start : ℕ) →
    JoinedFrom (base ∷ bases) later (suc start) → JoinedFrom bases later start
place_rest base bases later start h = record {
  within = let w = h.within in omega arith;
  past = λ e. let p = h.past e in omega (arith, p);
  here = λ e lt. h.here e (omega arith);
  behind = λ e k lt less. h.behind e (suc k) (omega arith) (omega arith);
}

-- base URLs in front of a last part: those from the place on are joined
from_place : (bases : List (Option (Bor (List ℕ)))) (last : List ℕ) (start : ℕ) → JoinedFrom bases (absolute last) start →
    from_last (present bases ++ (last ∷ [])) ≡ present (drop start bases) ++ (last ∷ [])
from_place [] last zero h = refl
from_place [] last (suc start) h = refl
from_place (base ∷ bases) last zero h =
    ap from_last split ∙ from_here base (present bases ++ (last ∷ [])) (none (absolute last) refl) ∙ sym split
  where
    split : (part_in base ++ present bases) ++ (last ∷ []) ≡ part_in base ++ (present bases ++ (last ∷ []))
    split = append_assoc (part_in base) (present bases) (last ∷ [])

    none : (a : Bool) → absolute last ≡ a → some_absolute (present bases ++ (last ∷ [])) ≡ false
    none true e = let n = h.past e in absurd (omega (arith, n))
    none false e = some_none bases last e (λ k lt. h.behind e (suc k) (omega arith) (omega arith))
from_place (base ∷ bases) last (suc start) h =
    ap from_last (append_assoc (part_in base) (present bases) (last ∷ []))
    ∙ from_later base (present bases ++ (last ∷ [])) (some (absolute last) refl)
    ∙ from_place bases last start (place_rest base bases (absolute last) start h)
  where
    some : (a : Bool) → absolute last ≡ a → some_absolute (present bases ++ (last ∷ [])) ≡ true
    some true e = some_last bases last e
    some false e = some_at bases last start (h.here e (omega arith))

-- the bytes of parts in front of a last one
together_last : (parts : List (List ℕ)) (last : List ℕ) → together (parts ++ (last ∷ [])) ≡ together parts ++ last
together_last [] last = append-nil last
together_last (part ∷ parts) last = ap (λ t. part ++ t) (together_last parts last) ∙ sym (append_assoc part (together parts) last)

-- the base URLs from the place on and the expansion are all parts that are joined
pub placed_parts : (p : Parts) (v : Given) (later : Bool) (start : ℕ) → later ≡ absolute (expanded p.template.now v) →
    JoinedFrom (bases_of p) later start →
    together (present (take (4 - start) (drop start (bases_of p)))) ++ expanded p.template.now v ≡ joined (parts_with p v)
placed_parts p v later start is h =
    let bases = bases_of p in
    let last = expanded p.template.now v in
    let rest : take (4 - start) (drop start bases) ≡ drop start bases =
    take_all (4 - start) (drop start bases) (let long = length-drop start bases in omega (arith, long)) in
    let parts : present bases ++ (last ∷ []) ≡ parts_with p v = simp append_assoc in
    ap (λ bs. together (present bs) ++ last) rest
    ∙ sym (together_last (present (drop start bases)) last)
    ∙ ap together (sym (from_place bases last start (subst (λ b. JoinedFrom bases b start) is h)))
    ∙ ap joined parts

-- one base URL more
pub base_more : (bases : List (Option (Bor (List ℕ)))) (i : ℕ) (base : Option (Bor (List ℕ))) → i < length bases → get_or bases i None ≡ base →
    drop i bases ≡ base ∷ drop (i + 1) bases
base_more bases i base h e = rw add-one (drop-cons bases i None h ∙ ap (λ b. b ∷ drop (suc i) bases) e)

-- what is joined begins at the last absolute part, or at the first
pub begun : (parts : List (List ℕ)) → Begun parts (joined parts)
begun [] = ([], [], refl, refl, inr (refl, refl))
begun (part ∷ parts) = go (begun parts) (some_absolute parts) refl (absolute part) refl
  where
    go : Begun parts (joined parts) → (b : Bool) → some_absolute parts ≡ b → (a : Bool) → absolute part ≡ a →
        Begun (part ∷ parts) (together (cond b (from_last parts) (part ∷ parts)))
    go later false e true f = ([], part ∷ parts, refl, refl, inl (part, parts, refl, f, e))
    go later false e false f = ([], part ∷ parts, refl, refl, inr (refl, ap (λ x. x || some_absolute parts) f ∙ e))
    go later true e a f =
        let none : later.0 ≡ [] → some_absolute later.1 ≡ false → some_absolute parts ≡ false =
        λ n s. ap some_absolute later.2 ∙ ap (λ ps. some_absolute (ps ++ later.1)) n ∙ s in (
          part ∷ later.0,
          later.1,
          ap (λ ps. part ∷ ps) later.2,
          later.3,
          ⊎_elim (λ here. inl here) (λ n. absurd (both_ways (some_absolute parts) (none n.0 n.1) e)) later.4,
        )
