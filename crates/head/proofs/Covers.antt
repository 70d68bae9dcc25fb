-- Where a tick splits the list decides which places cover it.
use Rattle.std.proofs.Common.{◌≡◌, ℕ, zero, suc, ◌+◌, ◌<◌, ◌≤◌, Bool, true, false, ltb, leb, ◌⊎◌, List, [], ◌∷◌, length, get_or, filter, sym, refl, ap, inl, inr, add-zero, arith}
use Rattle.std.specs.List.{range_with_len}
use Rattle.std.proofs.lemmas.Bool.{lt-ltb, le-ltb, le-leb, lt-leb, and_from, and_left, and_right, cases_order, cases_lt, cases_Bool}
use Rattle.std.proofs.lemmas.Bool.Decides.{nat_tests}
use Rattle.timeline.specs.declared.segment.Segment.{Segment}
use Rattle.timeline.specs.Segments.{end, blank, Sound, covers, meets, ended_by, within_of}
use Rattle.timeline.specs.Laws.Splits.{Split, counts_split}
use Rattle.timeline.specs.Laws.Tellings.{in_order}
use Rattle.head.specs.Heads.{covering, Covered}

-- none of the numbers from a passes
kept_none : (p : ℕ → Bool) (a n : ℕ) → ((i : ℕ) → a ≤ i → i < a + n → p i ≡ false) → filter p (range_with_len a n) ≡ []
kept_none p a zero none = refl
kept_none p a (suc n) none =
    rw (none a (omega arith) (omega arith)) (kept_none p (a + 1) n (λ i h k. none i (omega arith) (omega arith)))

-- one passes, and no other
kept_one : (p : ℕ → Bool) (a n k : ℕ) → a ≤ k → k < a + n → p k ≡ true → ((i : ℕ) → a ≤ i → i < a + n → (i ≡ k → ⊥) → p i ≡ false) → filter p (range_with_len a n) ≡ k ∷ []
kept_one p a zero k low high here none = absurd (omega arith)
kept_one p a (suc n) k low high here none =
    elim (cases_order a k) [
      | inl e ↦ rw e (rw here (ap (λ xs. k ∷ xs) (kept_none p (k + 1) n (λ i h j. none i (omega arith) (omega arith) (omega arith)))))
      | inr (inl l) ↦
          rw (none a (omega arith) (omega arith) (omega arith))
          (kept_one p (a + 1) n k (omega arith) (omega arith) here (λ i h j. none i (omega arith) (omega arith)))
      | inr (inr l) ↦ absurd (omega arith)
    ]

-- as many places pass as elements do
kept_places : (p : Segment → Bool) (q : ℕ → Bool) (a : ℕ) (xs : List Segment) → ((i : ℕ) → i < length xs → q (a + i) ≡ p (get_or xs i blank)) → length (filter q (range_with_len a (length xs))) ≡ length (filter p xs)
kept_places p q a [] same = refl
kept_places p q a (x ∷ xs) same =
    let rest = kept_places p q (a + 1) xs (λ i h. let e : a + 1 + i ≡ a + suc i = omega arith in rw e (same (suc i) (omega arith))) in
    let here : q a ≡ p x = rw add-zero at (same 0 (omega arith)) in
    elim (cases_Bool (p x)) [
      | inl passes ↦ rw (here, passes) (ap suc rest)
      | inr fails ↦ rw (here, fails) rest
    ]

module _ (xs : List Segment) (ok : Sound xs) (tick : ℕ) where
  module _ (k : ℕ) (split : Split xs tick k) where
    -- at another place than the first that has not ended
    elsewhere : (i : ℕ) → i < length xs → (i ≡ k → ⊥) → covers tick (get_or xs i blank) ≡ false
    elsewhere i h apart =
        let s = get_or xs i blank in
        elim (cases_order i k) [
          | inl e ↦ absurd (apart e)
          | inr (inl l) ↦ and_right (leb s.start tick) (ltb tick (end s)) (le-ltb tick (end s) (split.before i blank l))
          | inr (inr l) ↦
              let order = in_order xs ok k i blank l h in
              let late = split.after k blank (omega arith) (omega arith) in
              and_left (leb s.start tick) (ltb tick (end s)) (lt-leb s.start tick (omega arith))
        ]

    covered : k < length xs → (get_or xs k blank).start ≤ tick → Covered xs tick k
    covered within started =
        let s = get_or xs k blank in
        let late = split.after k blank (omega arith) within in
        record { there = within; covering = and_from (leb s.start tick) (ltb tick (end s)) (le-leb s.start tick started) (lt-ltb tick (end s) late) }

    one_covers : Covered xs tick k → covering xs tick ≡ k ∷ []
    one_covers c =
        let within = c.there in
        kept_one (λ i. covers tick (get_or xs i blank)) 0 (length xs) k (omega arith) (omega arith) c.covering (λ i h j apart. elsewhere i (omega arith) apart)

    none_covers : (k < length xs → tick < (get_or xs k blank).start) → covering xs tick ≡ []
    none_covers gap =
        kept_none (λ i. covers tick (get_or xs i blank)) 0 (length xs) (λ i h j.
        let s = get_or xs i blank in
        elim (cases_order i k) [
          | inl e ↦
              let within : k < length xs = omega arith in
              let late : tick < s.start = rw e (gap within) in
              and_left (leb s.start tick) (ltb tick (end s)) (lt-leb s.start tick late)
          | inr (inl l) ↦ elsewhere i (omega arith) (omega arith)
          | inr (inr l) ↦ elsewhere i (omega arith) (omega arith)
        ])

    cases : (covering xs tick ≡ []) ⊎ ((covering xs tick ≡ k ∷ []) × Covered xs tick k)
    cases =
        elim (cases_lt k (length xs)) [
          | inl within ↦ elim (cases_lt tick (get_or xs k blank).start) [
            | inl late ↦ inl (none_covers (λ _. late))
            | inr early ↦ let c = covered within early in inr (one_covers c, c)
          ]
          | inr past ↦ inl (none_covers (λ h. absurd (omega arith)))
        ]

  -- no segment covers the tick, or the first that has not ended does and no other
  pub cover_cases : (covering xs tick ≡ []) ⊎ ((covering xs tick ≡ ended_by xs tick ∷ []) × Covered xs tick (ended_by xs tick))
  cover_cases = cases (ended_by xs tick) (counts_split xs ok tick (ended_by xs tick) refl)

-- how many cover it
pub cover_count : (xs : List Segment) (tick : ℕ) → within_of xs tick (tick + 1) ≡ length (covering xs tick)
cover_count xs tick =
    sym (kept_places (meets tick (tick + 1)) (λ i. covers tick (get_or xs i blank)) 0 xs (λ i h.
    let e : 0 + i ≡ i = omega arith in
    rw e (same (get_or xs i blank))))
  where
    same : (s : Segment) → covers tick s ≡ meets tick (tick + 1) s
    same s = grind (arith, nat_tests)
