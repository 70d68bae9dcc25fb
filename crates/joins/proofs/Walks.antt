-- Parts read from the last one to the front.
use Rattle.std.proofs.Common.{◌≡◌, ℕ, Bool, true, false, cond, ◌||◌, List, [], ◌∷◌, ◌++◌, Some, None, Option, sym, refl, ap, ◌∙◌, subst, Bor}
use Rattle.std.proofs.Math.Bool.{or-false}
use Rattle.std.proofs.lemmas.Bool.{or_right}
use Rattle.address.specs.declared.Parts.{Parts}
use Rattle.address.specs.Expansion.{expanded}
use Rattle.address.specs.Joining.{absolute, some_absolute, from_last, part_in, given_of}
use Rattle.address.proofs.Join.{from_none}
use Rattle.joins.specs.declared.Walk.{Walk}
use Rattle.joins.specs.Joints.{rooted, unfit, some_unfit, some_rooted, later_rooted, unjoinable}
use Rattle.joins.specs.Steps.{lastly, joining, stepped}
use Rattle.joins.proofs.Fronts.{absolute_each, rooted_each}

-- whether the first of the parts begins with '/'
abbrev first_rooted : List (List ℕ) → Bool
first_rooted [] = false
first_rooted (part ∷ parts) = rooted part

-- what is known of some parts, by whether one is absolute and by those that are joined
abbrev known_by : Bool → List (List ℕ) → Walk
known_by some joined = record { begun = some; slash = first_rooted joined; misfit = some_unfit joined || later_rooted joined }

abbrev known : List (List ℕ) → Walk
known parts = known_by (some_absolute parts) (from_last parts)

known_last : (part : List ℕ) → lastly part ≡ known (part ∷ [])
known_last part = ap (λ b. record { begun = b; slash = rooted part; misfit = false }) (sym (or-false (absolute part)))

regrouped : (u r s l : Bool) → (u || (r || (s || l))) ≡ ((u || s) || (r || l))
regrouped true r s l = refl
regrouped false true true l = refl
regrouped false true false l = refl
regrouped false false s l = refl

-- one base URL more in front of some parts
known_more : (base : Option (Bor (List ℕ))) (part : List ℕ) (parts : List (List ℕ)) →
    stepped (known (part ∷ parts)) base ≡ known (part_in base ++ (part ∷ parts))
known_more None part parts = refl
known_more (Some text) part parts = go text.now (some_absolute (part ∷ parts)) refl
  where
    go : (base : List ℕ) (b : Bool) → some_absolute (part ∷ parts) ≡ b →
        cond b (known (part ∷ parts)) (joining (known (part ∷ parts)) base)
        ≡ known_by (absolute base || b) (cond b (from_last (part ∷ parts)) (base ∷ part ∷ parts))
    go base true e =
        ap (λ some. known_by some (from_last (part ∷ parts))) (e ∙ sym (or_right (absolute base) true refl))
    go base false e =
        ap (λ ps. joining (known_by false ps) base) (from_none (part ∷ parts) e)
        ∙ ap (λ m. record { begun = absolute base; slash = rooted base; misfit = m })
        (regrouped (unfit base) (rooted part) (some_unfit (part ∷ parts)) (some_rooted parts))
        ∙ ap (λ some. known_by some (base ∷ part ∷ parts)) (sym (or-false (absolute base)))

-- at least one part
abbrev Nonempty : List (List ℕ) → Type 0
Nonempty parts = (part : List ℕ) × (rest : List (List ℕ)) × (parts ≡ part ∷ rest)

nonempty_more : (base : Option (Bor (List ℕ))) (parts : List (List ℕ)) → Nonempty parts → Nonempty (part_in base ++ parts)
nonempty_more None parts h = h
nonempty_more (Some text) parts h = (text.now, parts, refl)

step_more : (base : Option (Bor (List ℕ))) (parts : List (List ℕ)) → Nonempty parts →
    stepped (known parts) base ≡ known (part_in base ++ parts)
step_more base parts h =
    let P : List (List ℕ) → Type 0 = λ ps. stepped (known ps) base ≡ known (part_in base ++ ps) in
    subst P (sym h.2) (known_more base h.0 h.1)

-- all base URLs read in front of the last part
abbrev pub walked : Parts → Walk → Walk
walked p last = stepped (stepped (stepped (stepped last p.representation) p.set) p.period) p.mpd

-- reading all parts tells whether they can be joined
pub walked_tells : (p : Parts) (number time : ℕ) →
    (walked p (lastly (expanded p.template.now (given_of p number time)))).misfit ≡ unjoinable p number time
walked_tells p number time =
    let part = expanded p.template.now (given_of p number time) in
    let five = part ∷ [] in
    let four = part_in p.representation ++ five in
    let three = part_in p.set ++ four in
    let two = part_in p.period ++ three in
    let more4 : Nonempty four = nonempty_more p.representation five (part, [], refl) in
    let more3 : Nonempty three = nonempty_more p.set four more4 in
    let more2 : Nonempty two = nonempty_more p.period three more3 in
    let e5 = known_last part in
    let e4 = step_more p.representation five (part, [], refl) in
    let e3 = step_more p.set four more4 in
    let e2 = step_more p.period three more3 in
    let e1 = step_more p.mpd two more2 in
    ap (λ w. (walked p w).misfit) e5
    ∙ ap (λ w. (stepped (stepped (stepped w p.set) p.period) p.mpd).misfit) e4
    ∙ ap (λ w. (stepped (stepped w p.period) p.mpd).misfit) e3
    ∙ ap (λ w. (stepped w p.mpd).misfit) e2
    ∙ ap (λ w. w.misfit) e1

-- what is joined does not hang on the number and the time
pub each_same : (p : Parts) (number time : ℕ) → unjoinable p number time ≡ unjoinable p 0 0
each_same p number time =
    let at : ℕ → ℕ → List ℕ = λ n t. expanded p.template.now (given_of p n t) in
    let begun : absolute (at number time) ≡ absolute (at 0 0) = absolute_each p.id.now p.bandwidth number time p.template.now in
    let slash : rooted (at number time) ≡ rooted (at 0 0) = rooted_each p.id.now p.bandwidth number time p.template.now in
    sym (walked_tells p number time)
    ∙ ap (λ b. (walked p (record { begun = b; slash = rooted (at number time); misfit = false })).misfit) begun
    ∙ ap (λ b. (walked p (record { begun = absolute (at 0 0); slash = b; misfit = false })).misfit) slash
    ∙ walked_tells p 0 0
