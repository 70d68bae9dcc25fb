-- The fields of a duration, together the whole text.
use Rattle.std.proofs.Common.{◌≡◌, ℕ, ◌+◌, ◌*◌, ◌^◌, ◌<◌, ◌≤◌, min, true, List, length, drop, Some, None, Ok, Err, Option, MatchOption, sym, refl, ap, ◌∙◌, subst, arith, length-drop}
use Rattle.std.specs.Option.{unwrap_or}
use Rattle.std.proofs.lemmas.Bool.Decides.{nat_tests}
use Rattle.values.specs.declared.Taken.{Taken}
use Rattle.values.specs.declared.ValueFault.TheVariants.{NoDuration}
use Rattle.values.specs.Fields.{field_len, field_num, Takes, IsField, seconds_len, seconds_num, seconds_millis, AreSeconds, minutes_on, seconds_on, total, used}
use Rattle.values.specs.Duration.{begun, duration_of}

no_number : (unit : ℕ) (xs : List ℕ) → field_len unit xs ≡ 0 → field_num unit xs ≡ 0
no_number unit xs h = grind (arith, nat_tests)

no_seconds : (xs : List ℕ) → seconds_len xs ≡ 0 → seconds_num xs * 1000 + seconds_millis xs ≡ 0
no_seconds xs h = grind (arith, nat_tests)

-- what is read of the front of a text that may lack it
abbrev pub Left : ℕ → ℕ → List ℕ → Taken → Type 0
Left len value xs r = (r.value ≡ value) × (r.rest.now ≡ drop len xs) × (length r.rest.now + len ≡ length xs)

left : (len value : ℕ) (d : Taken) (o : Option Taken) → (len ≡ 0 → value ≡ 0) → MatchOption o (len ≡ 0) (λ t. Takes len value d.rest.now t.value t.rest.now) → d.value ≡ 0 → Left len value d.rest.now (unwrap_or o d)
left len value d None z m v = let p = z m in (omega arith, ap (λ k. drop k d.rest.now) (sym m), omega arith)
left len value d (Some t) z m v = (m.1, m.2, m.3)

-- the hours, the minutes and the seconds, each with what stands behind it: h, m and e are read of d, of what is left by h and of what is left by m
module _ (d h m e : Taken) (o p q : Option Taken) (zero : d.value ≡ 0)
    (hours : MatchOption o (field_len 72 d.rest.now ≡ 0) (λ t. IsField 72 d.rest.now t.value t.rest.now)) (h_is : h ≡ unwrap_or o d)
    (minutes : MatchOption p (field_len 77 h.rest.now ≡ 0) (λ t. IsField 77 h.rest.now t.value t.rest.now)) (m_is : m ≡ unwrap_or p (record { value = 0; rest = h.rest }))
    (seconds : MatchOption q (seconds_len m.rest.now ≡ 0) (λ t. AreSeconds m.rest.now t.value t.rest.now)) (e_is : e ≡ unwrap_or q (record { value = 0; rest = m.rest })) where
  cut : (unit : ℕ) (xs : List ℕ) → field_len unit xs ≡ 0 → min (field_num unit xs) 100000000001 ≡ 0
  cut unit xs z = ap (λ k. min k 100000000001) (no_number unit xs z)

  hl : Left (field_len 72 d.rest.now) (min (field_num 72 d.rest.now) 100000000001) d.rest.now h
  hl = subst (Left _ _ _) (sym h_is) (left _ _ d o (cut 72 d.rest.now) hours zero)

  ml : Left (field_len 77 h.rest.now) (min (field_num 77 h.rest.now) 100000000001) h.rest.now m
  ml = subst (Left _ _ _) (sym m_is) (left _ _ _ p (cut 77 h.rest.now) minutes refl)

  el : Left (seconds_len m.rest.now) (min (seconds_num m.rest.now) 100000000001 * 1000 + seconds_millis m.rest.now) m.rest.now e
  el = subst (Left _ _ _) (sym e_is) (left _ _ _ q (λ z. omega (arith, no_seconds m.rest.now z)) seconds refl)

  pub bounded : seconds_millis m.rest.now ≤ 99900 → h.value * 3600000 + m.value * 60000 + e.value < 2 ^ 64
  bounded few = omega (arith, hl.0, ml.0, el.0)

  module _ (s : List ℕ) (b : begun s ≡ true) (r : d.rest.now ≡ drop 2 s) where
    on_h : h.rest.now ≡ minutes_on (drop 2 s)
    on_h = hl.1 ∙ ap (λ l. drop (field_len 72 l) l) r

    on_m : m.rest.now ≡ seconds_on (drop 2 s)
    on_m = ml.1 ∙ ap (λ l. drop (field_len 77 l) l) on_h

    all : length e.rest.now + (2 + used (drop 2 s)) ≡ length s
    all =
        let long : 2 < length s = grind (arith, nat_tests) in
        omega (arith, hl.2, ml.2, el.2, length-drop 2 s, ap length r, ap (field_len 72) r, ap (field_len 77) on_h, ap seconds_len on_m)

    -- a sum that is not too large is the total, and one that is too large shows that the total is
    sums : min (h.value * 3600000 + m.value * 60000 + e.value) 100000000001 ≡ min (total (drop 2 s)) 100000000001
    sums = omega (arith, hl.0, ml.0, el.0, ap (field_num 72) r, ap (field_num 77) on_h, ap seconds_num on_m, ap seconds_millis on_m)

    pub refused : (length e.rest.now ≡ 0 → 100000000000 < h.value * 3600000 + m.value * 60000 + e.value) → Err NoDuration ≡ duration_of s
    refused t =
        let a = all in
        let l : 2 + used (drop 2 s) ≡ length s → 100000000000 < total (drop 2 s) = λ x. omega (arith, sums, t (omega arith)) in
        grind (arith, nat_tests)

    pub read : length e.rest.now ≡ 0 → h.value * 3600000 + m.value * 60000 + e.value ≤ 100000000000 → Ok (h.value * 3600000 + m.value * 60000 + e.value) ≡ duration_of s
    read t small =
        let a = all in
        let f : h.value * 3600000 + m.value * 60000 + e.value ≡ total (drop 2 s) = omega (arith, sums) in
        grind (arith, nat_tests)
