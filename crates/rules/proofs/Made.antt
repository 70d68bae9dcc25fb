-- The findings list each rule that is broken at an element, and nothing else, in order.
use Rattle.std.proofs.Common.{◌≡◌, ℕ, zero, suc, ◌+◌, ◌-◌, ◌<◌, ◌≤◌, Bool, true, List, [], ◌∷◌, ◌++◌, length, get_or, sym, refl, ap, ◌∙◌, subst, inl, inr, add-one, arith, lit<, length-append}
use Rattle.std.proofs.ByRecursion.{All-get_or, All-append, All-weaker, has_append_left, has_append_right}
use Rattle.std.proofs.lemmas.List.{get_or_append_left, get_or-append_right}
use Rattle.std.proofs.lemmas.Bool.{cases_eq, cases_lt, cond-true, cond_both}
use Rattle.std.specs.List.{ContainsAt as Has, AllByRecursion}
use Rattle.tables.specs.declared.manifest.Attribute.{Attribute}
use Rattle.tables.specs.declared.manifest.Element.{Element}
use Rattle.rules.specs.Broken.{broken, number, rules}
use Rattle.rules.specs.Findings.{finding, no_finding, failing, findings_below, findings}
use Rattle.rules.specs.Laws.{number_of, Before, Law}
use Rattle.rules.specs.declared.rule.Finding.{Finding}
use Rattle.rules.specs.declared.rule.Rule.{Rule}
use Rattle.rules.specs.declared.rule.Rule.TheVariants.{DynamicUnanchored, StaticTimeShift, StaticUnbounded, NoDurationNorUpdate, NoMaxSegmentDuration, DurationAndTimeline, InitializationVaries, MediaBroken, AudioWithoutLanguage}

abbrev Ordered : List Finding → Type 0
Ordered xs = (i j : ℕ) → i < j → j < length xs → Before (get_or xs i no_finding) (get_or xs j no_finding)

ordered_cons : (x : Finding) (xs : List Finding) → AllByRecursion (Before x) xs → Ordered xs → Ordered (x ∷ xs)
ordered_cons x xs first rest i zero l h = absurd (omega arith)
ordered_cons x xs first rest zero (suc j) l h = All-get_or (Before x) xs j no_finding (omega arith) first
ordered_cons x xs first rest (suc i) (suc j) l h = rest i j (omega arith) (omega arith)

module _ (k : ℕ) (xs ys : List Finding) (low : AllByRecursion (λ x. x.element < k) xs) (here : AllByRecursion (λ y. y.element ≡ k) ys) where
  ordered_append : Ordered xs → Ordered ys → Ordered (xs ++ ys)
  ordered_append ox oy i j l h =
      let long = length-append xs ys in
      elim (cases_lt j (length xs)) [
        | inl a ↦
            let ei = get_or_append_left xs ys no_finding i (omega arith) in
            let ej = get_or_append_left xs ys no_finding j a in
            subst (λ x. Before x (get_or (xs ++ ys) j no_finding)) (sym ei) (subst (Before (get_or xs i no_finding)) (sym ej) (ox i j l a))
        | inr b ↦
            let ej = get_or-append_right xs ys (length xs) j no_finding refl b in
            let in' : j - length xs < length ys = omega arith in
            subst (Before (get_or (xs ++ ys) i no_finding)) (sym ej)
            (elim (cases_lt i (length xs)) [
              | inl a ↦
                  let ei = get_or_append_left xs ys no_finding i a in
                  let below = All-get_or (λ x. x.element < k) xs i no_finding a low in
                  let at = All-get_or (λ y. y.element ≡ k) ys (j - length xs) no_finding in' here in
                  subst (λ x. Before x (get_or ys (j - length xs) no_finding)) (sym ei) (inl (omega arith))
              | inr a ↦
                  let ei = get_or-append_right xs ys (length xs) i no_finding refl a in
                  subst (λ x. Before x (get_or ys (j - length xs) no_finding)) (sym ei) (oy (i - length xs) (j - length xs) (omega arith) in')
            ])
      ]

has_later : (y x : Finding) (xs : List Finding) → Has xs x → Has (y ∷ xs) x
has_later y x xs h = (suc h.0, omega (arith, h.1), h.2)

-- the rules go up by their numbers, from above n
abbrev Rising : ℕ → List Rule → Type 0
Rising n [] = Unit {0}
Rising n (f ∷ fs) = (n < number f) × Rising (number f) fs

rising : Rising 0 rules
rising = (lit< tt, (lit< tt, (lit< tt, (lit< tt, (lit< tt, (lit< tt, (lit< tt, (lit< tt, (lit< tt, tt)))))))))

-- where a rule stands
placed : (f : Rule) → (i : ℕ) × (i < length rules) × (get_or rules i DynamicUnanchored ≡ f)
placed DynamicUnanchored = (0, lit< tt, refl)
placed StaticTimeShift = (1, lit< tt, refl)
placed StaticUnbounded = (2, lit< tt, refl)
placed NoDurationNorUpdate = (3, lit< tt, refl)
placed NoMaxSegmentDuration = (4, lit< tt, refl)
placed DurationAndTimeline = (5, lit< tt, refl)
placed InitializationVaries = (6, lit< tt, refl)
placed MediaBroken = (7, lit< tt, refl)
placed AudioWithoutLanguage = (8, lit< tt, refl)

module _ (p : Rule → Bool) (e : ℕ) where
  abbrev Fails : Finding → Type 0
  Fails x = (f : Rule) × (p f ≡ true) × (x ≡ finding f e)

  all_fail : (fs : List Rule) → AllByRecursion Fails (failing p e fs)
  all_fail [] = tt
  all_fail (f ∷ fs) = cond_both (p f) (finding f e ∷ failing p e fs) (failing p e fs) (AllByRecursion Fails) (λ b. ((f, b, refl), all_fail fs)) (λ b. all_fail fs)

  all_here : (fs : List Rule) → AllByRecursion (λ x. x.element ≡ e) (failing p e fs)
  all_here fs = All-weaker Fails (λ x. x.element ≡ e) (λ x h. ap (λ y. y.element) h.2) (failing p e fs) (all_fail fs)

  all_above : (n : ℕ) (fs : List Rule) → Rising n fs → AllByRecursion (λ x. n < number_of x.rule) (failing p e fs)
  all_above n [] r = tt
  all_above n (f ∷ fs) r =
      let rest : AllByRecursion (λ x. n < number_of x.rule) (failing p e fs) = All-weaker (λ x. number f < number_of x.rule) (λ x. n < number_of x.rule) (λ x h. omega (arith, r.0)) (failing p e fs) (all_above (number f) fs r.1) in
      cond_both (p f) (finding f e ∷ failing p e fs) (failing p e fs) (AllByRecursion (λ x. n < number_of x.rule)) (λ b. (r.0, rest)) (λ b. rest)

  all_before : (f : Rule) (xs : List Finding) → AllByRecursion (λ x. x.element ≡ e) xs → AllByRecursion (λ x. number f < number_of x.rule) xs → AllByRecursion (Before (finding f e)) xs
  all_before f [] h a = tt
  all_before f (x ∷ xs) h a = (inr (sym h.0, a.0), all_before f xs h.1 a.1)

  failing_ordered : (n : ℕ) (fs : List Rule) → Rising n fs → Ordered (failing p e fs)
  failing_ordered n [] r = λ i j l h. absurd (omega arith)
  failing_ordered n (f ∷ fs) r =
      let rest = failing_ordered (number f) fs r.1 in
      cond_both (p f) (finding f e ∷ failing p e fs) (failing p e fs) Ordered
      (λ b. ordered_cons (finding f e) (failing p e fs) (all_before f (failing p e fs) (all_here fs) (all_above (number f) fs r.1)) rest)
      (λ b. rest)

  failing_has : (d : Rule) (fs : List Rule) (i : ℕ) → i < length fs → p (get_or fs i d) ≡ true → Has (failing p e fs) (finding (get_or fs i d) e)
  failing_has d [] i h b = absurd (omega arith)
  failing_has d (f ∷ fs) zero h b =
      subst (λ l. Has l (finding f e)) (sym (cond-true (p f) (finding f e ∷ failing p e fs) (failing p e fs) b)) (0, omega arith, λ z. refl)
  failing_has d (f ∷ fs) (suc i) h b =
      let x = finding (get_or fs i d) e in
      let rest : Has (failing p e fs) x = failing_has d fs i (omega arith) b in
      cond_both (p f) (finding f e ∷ failing p e fs) (failing p e fs) (λ l. Has l x) (λ _. has_later (finding f e) x (failing p e fs) rest) (λ _. rest)

module _ (m : List ℕ) (es : List Element) (attrs : List Attribute) where
  below_more : (k : ℕ) → findings_below m es attrs (k + 1) ≡ findings_below m es attrs k ++ failing (broken m es attrs k) k rules
  below_more k = ap (findings_below m es attrs) (add-one k)

  -- the findings at one row more
  pub below_listed : (k : ℕ) (held more : List Finding) → held ≡ findings_below m es attrs k → more ≡ held ++ failing (broken m es attrs k) k rules → more ≡ findings_below m es attrs (k + 1)
  below_listed k held more h e = e ∙ ap (λ l. l ++ failing (broken m es attrs k) k rules) h ∙ sym (below_more k)

  -- the findings at fewer rows are not more
  pub below_grows : (k n : ℕ) → k ≤ n → length (findings_below m es attrs k) ≤ length (findings_below m es attrs n)
  below_grows k zero h = let e : k ≡ 0 = omega arith in rw e (omega arith)
  below_grows k (suc n) h =
      let long = length-append (findings_below m es attrs n) (failing (broken m es attrs n) n rules) in
      elim (cases_eq k (suc n)) [ inl e ↦ rw e (omega arith) | inr d ↦ omega (arith, below_grows k n (omega (arith, d))) ]

  abbrev Below : ℕ → Finding → Type 0
  Below n x = (f : Rule) × (e : ℕ) × (e < n) × (broken m es attrs e f ≡ true) × (x ≡ finding f e)

  below_sound : (n : ℕ) → AllByRecursion (Below n) (findings_below m es attrs n)
  below_sound zero = tt
  below_sound (suc n) =
      let here = failing (broken m es attrs n) n rules in
      All-append (Below (suc n)) (findings_below m es attrs n) here
      (All-weaker (Below n) (Below (suc n)) (λ x h. (h.0, h.1, omega (arith, h.2), h.3, h.4)) (findings_below m es attrs n) (below_sound n))
      (All-weaker (Fails (broken m es attrs n) n) (Below (suc n)) (λ x h. (h.0, n, omega arith, h.1, h.2)) here (all_fail (broken m es attrs n) n rules))

  here_has : (f : Rule) (e : ℕ) → broken m es attrs e f ≡ true → Has (failing (broken m es attrs e) e rules) (finding f e)
  here_has f e b =
      let at = placed f in
      subst (λ g. Has (failing (broken m es attrs e) e rules) (finding g e)) at.2
      (failing_has (broken m es attrs e) e DynamicUnanchored rules at.0 at.1 (subst (λ g. broken m es attrs e g ≡ true) (sym at.2) b))

  below_has : (f : Rule) (e : ℕ) → broken m es attrs e f ≡ true → (n : ℕ) → e < n → Has (findings_below m es attrs n) (finding f e)
  below_has f e b zero h = absurd (omega arith)
  below_has f e b (suc n) h =
      let here = failing (broken m es attrs n) n rules in
      elim (cases_eq e n) [
        | inl s ↦ subst (λ k. Has (findings_below m es attrs n ++ failing (broken m es attrs k) k rules) (finding f e)) s
            (has_append_right (findings_below m es attrs n) (failing (broken m es attrs e) e rules) (finding f e) (here_has f e b))
        | inr d ↦ has_append_left (findings_below m es attrs n) here (finding f e) (below_has f e b n (omega (arith, d)))
      ]

  below_ordered : (n : ℕ) → Ordered (findings_below m es attrs n)
  below_ordered zero = λ i j l h. absurd (omega arith)
  below_ordered (suc n) =
      let here = failing (broken m es attrs n) n rules in
      ordered_append n (findings_below m es attrs n) here
      (All-weaker (Below n) (λ x. x.element < n) (λ x h. subst (λ k. k < n) (sym (ap (λ y. y.element) h.4)) h.2) (findings_below m es attrs n) (below_sound n))
      (all_here (broken m es attrs n) n rules)
      (below_ordered n)
      (failing_ordered (broken m es attrs n) n 0 rules rising)

  pub lawful : Law m es attrs (findings m es attrs)
  lawful =
      record {
        sound = λ k h. All-get_or (Below (length es)) (findings m es attrs) k no_finding h (below_sound (length es));
        complete = λ f e h b. let has = below_has f e b (length es) h in (has.0, has.1, has.2 no_finding);
        ordered = below_ordered (length es);
      }
