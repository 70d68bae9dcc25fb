-- Every duration is read.
use Rattle.std.proofs.Common.{◌≡◌, ℕ, suc, ◌+◌, ◌-◌, ◌*◌, ◌^◌, ◌<◌, true, false, List, [], ◌∷◌, ◌++◌, length, get_or, take, drop, Ok, sym, refl, ap, ◌∙◌, subst, append_assoc, arith, length-append}
use Rattle.std.specs.List.{prefix_len}
use Rattle.std.proofs.lemmas.List.{take_at, drop_at, get_or_at}
use Rattle.std.proofs.lemmas.Bool.Decides.{nat_tests}
use Rattle.values.specs.Whole.{digit, digits, decimal}
use Rattle.values.specs.Fields.{front, field_len, field_num, behind, seconds_len, seconds_num, seconds_millis, minutes_on, seconds_on, total, used}
use Rattle.values.specs.Duration.{Field, absent, given, Seconds, whole, pointed, Digits, SoundField, SoundSeconds, field_text, seconds_text, field_value, seconds_value, Duration, duration_of}
use Rattle.values.proofs.Ways.{has_decimals_lem, by_whole, by_point}

-- digits, and then another byte
lead : (ds rest : List ℕ) (u : ℕ) → digits ds ≡ true → digit u ≡ false → prefix_len digit (ds ++ (u ∷ rest)) ≡ length ds
lead [] rest u h k = grind (arith, nat_tests)
lead (d ∷ ds) rest u h k = let ih = lead ds rest u in grind (arith, nat_tests)

module _ (ds rest : List ℕ) (u : ℕ) (h : digits ds ≡ true) (k : digit u ≡ false) where
  there : get_or (ds ++ (u ∷ rest)) (prefix_len digit (ds ++ (u ∷ rest))) 0 ≡ u
  there = ap (λ n. get_or (ds ++ (u ∷ rest)) n 0) (lead ds rest u h k) ∙ get_or_at ds u rest 0 (length ds) refl

  len_not : (w : ℕ) → (u ≡ w → ⊥) → field_len w (ds ++ (u ∷ rest)) ≡ 0
  len_not w ne = let t = there in grind (arith, nat_tests)

  num_not : (w : ℕ) → (u ≡ w → ⊥) → field_num w (ds ++ (u ∷ rest)) ≡ 0
  num_not w ne = let t = there in grind (arith, nat_tests)

  len : 0 < length ds → field_len u (ds ++ (u ∷ rest)) ≡ length ds + 1
  len p = let t = there in let n = lead ds rest u h k in grind (arith, nat_tests)

  num : 0 < length ds → field_num u (ds ++ (u ∷ rest)) ≡ decimal ds
  num p =
      let t = there in
      let n = lead ds rest u h k in
      let e : field_num u (ds ++ (u ∷ rest)) ≡ decimal (front (ds ++ (u ∷ rest))) = grind (arith, nat_tests) in
      e ∙ ap (λ n. decimal (take n (ds ++ (u ∷ rest)))) n ∙ ap decimal (take_at ds (u ∷ rest) (length ds) refl)

  on : 0 < length ds → drop (field_len u (ds ++ (u ∷ rest))) (ds ++ (u ∷ rest)) ≡ rest
  on p = ap (λ n. drop n (ds ++ (u ∷ rest))) (len p) ∙ ap (λ l. drop (length ds + 1) l) (sym (append_assoc ds (u ∷ []) rest)) ∙ drop_at (ds ++ (u ∷ [])) rest (length ds + 1) (length-append ds (u ∷ []))

-- what a field takes of the text that begins with it
pub record TakesField (u : ℕ) (f : Field) (xs rest : List ℕ) : Type 0 where
  pub long : field_len u xs ≡ length (field_text u f)
  pub value : field_num u xs ≡ field_value f
  pub on : drop (field_len u xs) xs ≡ rest

takes_given : (u : ℕ) (ds rest : List ℕ) → digit u ≡ false → Digits ds → TakesField u (given ds) ((ds ++ (u ∷ [])) ++ rest) rest
takes_given u ds rest k h =
    subst (λ l. TakesField u (given ds) l rest) (sym (append_assoc ds (u ∷ []) rest)) (record {
      long = len ds rest u h.0 k h.1 ∙ sym (length-append ds (u ∷ []));
      value = num ds rest u h.0 k h.1;
      on = on ds rest u h.0 k h.1;
    })

takes_none : (u w : ℕ) (ds rest : List ℕ) → digits ds ≡ true → digit w ≡ false → (w ≡ u → ⊥) → TakesField u absent (ds ++ (w ∷ rest)) (ds ++ (w ∷ rest))
takes_none u w ds rest h k ne = record {
  long = len_not ds rest w h k u ne;
  value = num_not ds rest w h k u ne;
  on = ap (λ n. drop n (ds ++ (w ∷ rest))) (len_not ds rest w h k u ne);
}

takes_nil : (u : ℕ) → TakesField u absent [] []
takes_nil u = record { long = refl; value = refl; on = refl }

-- a text whose first byte after its digits is one of these
minutes_take : (f : Field) (g : Seconds) → SoundField f → SoundSeconds g → TakesField 77 f (field_text 77 f ++ seconds_text g) (seconds_text g)
minutes_take (given ds) g h k = takes_given 77 ds (seconds_text g) refl h
minutes_take absent absent h k = takes_nil 77
minutes_take absent (whole ds) h k = takes_none 77 83 ds [] k.0 refl (λ e. omega arith)
minutes_take absent (pointed ds fs) h k = takes_none 77 46 ds (fs ++ (83 ∷ [])) k.0.0 refl (λ e. omega arith)

hours_take : (e f : Field) (g : Seconds) → SoundField e → SoundField f → SoundSeconds g → TakesField 72 e (field_text 72 e ++ (field_text 77 f ++ seconds_text g)) (field_text 77 f ++ seconds_text g)
hours_take (given ds) f g h k l = takes_given 72 ds (field_text 77 f ++ seconds_text g) refl h
hours_take absent (given ds) g h k l = subst (λ x. TakesField 72 absent x x) (sym (append_assoc ds (77 ∷ []) (seconds_text g))) (takes_none 72 77 ds (seconds_text g) k.0 refl (λ e. omega arith))
hours_take absent absent absent h k l = takes_nil 72
hours_take absent absent (whole ds) h k l = takes_none 72 83 ds [] l.0 refl (λ e. omega arith)
hours_take absent absent (pointed ds fs) h k l = takes_none 72 46 ds (fs ++ (83 ∷ [])) l.0.0 refl (λ e. omega arith)

pub record TakesSeconds (g : Seconds) : Type 0 where
  pub long : seconds_len (seconds_text g) ≡ length (seconds_text g)
  pub value : seconds_num (seconds_text g) * 1000 + seconds_millis (seconds_text g) ≡ seconds_value g

seconds_take : (g : Seconds) → SoundSeconds g → TakesSeconds g
seconds_take absent h = record { long = refl; value = refl }
seconds_take (whole ds) h =
    let xs : List ℕ = ds ++ (83 ∷ []) in
    let a = len ds [] 83 h.0 refl h.1 in
    let n = num ds [] 83 h.0 refl h.1 in
    let l : seconds_len xs ≡ field_len 83 xs = by_whole xs _ _ (omega arith) in
    let v : seconds_num xs ≡ field_num 83 xs = by_whole xs _ _ (omega arith) in
    let m : seconds_millis xs ≡ 0 = by_whole xs _ _ (omega arith) in
    record { long = l ∙ a ∙ sym (length-append ds (83 ∷ [])); value = omega (arith, v, m, n) }
seconds_take (pointed ds fs) h =
    let xs : List ℕ = ds ++ (46 ∷ (fs ++ (83 ∷ []))) in
    let z = len_not ds (fs ++ (83 ∷ [])) 46 h.0.0 refl 83 (λ e. omega arith) in
    let p = len ds (fs ++ (83 ∷ [])) 46 h.0.0 refl h.0.1 in
    let o : behind xs ≡ fs ++ (83 ∷ []) = on ds (fs ++ (83 ∷ [])) 46 h.0.0 refl h.0.1 in
    let b : field_len 83 (behind xs) ≡ length fs + 1 = ap (field_len 83) o ∙ len fs [] 83 h.1.0 refl h.1.1 in
    let w = num ds (fs ++ (83 ∷ [])) 46 h.0.0 refl h.0.1 in
    let f : field_num 83 (behind xs) ≡ decimal fs = ap (field_num 83) o ∙ num fs [] 83 h.1.0 refl h.1.1 in
    let d = has_decimals_lem xs (omega arith) (omega arith) (omega (arith, h.2)) in
    let l : seconds_len xs ≡ field_len 46 xs + field_len 83 (behind xs) = by_point xs _ _ z d in
    let v : seconds_num xs ≡ field_num 46 xs = by_point xs _ _ z d in
    let m : seconds_millis xs ≡ field_num 83 (behind xs) * 10 ^ (4 - field_len 83 (behind xs)) = by_point xs _ _ z d in
    let e : 4 - field_len 83 (behind xs) ≡ 3 - length fs = omega arith in
    let t : field_num 83 (behind xs) * 10 ^ (4 - field_len 83 (behind xs)) ≡ decimal fs * 10 ^ (3 - length fs) = ap (λ x. x * 10 ^ (4 - field_len 83 (behind xs))) f ∙ ap (λ x. decimal fs * 10 ^ x) e in
    record {
      long = l ∙ omega (arith, length-append ds (46 ∷ (fs ++ (83 ∷ []))), length-append fs (83 ∷ []));
      value = omega (arith, v, m, w, t);
    }

-- each duration is read
pub complete : (s : List ℕ) (ms : ℕ) → Duration s ms → duration_of s ≡ Ok ms
complete s ms d =
    let xs : List ℕ = field_text 72 d.hours ++ (field_text 77 d.minutes ++ seconds_text d.seconds) in
    let hh = hours_take d.hours d.minutes d.seconds d.hours_sound d.minutes_sound d.seconds_sound in
    let mm = minutes_take d.minutes d.seconds d.minutes_sound d.seconds_sound in
    let ss = seconds_take d.seconds d.seconds_sound in
    let so : seconds_on xs ≡ seconds_text d.seconds = ap (λ l. drop (field_len 77 l) l) hh.on ∙ mm.on in
    let u₁ : field_len 77 (minutes_on xs) ≡ length (field_text 77 d.minutes) = ap (field_len 77) hh.on ∙ mm.long in
    let u₂ : seconds_len (seconds_on xs) ≡ length (seconds_text d.seconds) = ap seconds_len so ∙ ss.long in
    let v₁ : field_num 77 (minutes_on xs) ≡ field_value d.minutes = ap (field_num 77) hh.on ∙ mm.value in
    let v₂ : seconds_num (seconds_on xs) * 1000 + seconds_millis (seconds_on xs) ≡ seconds_value d.seconds = ap (λ l. seconds_num l * 1000 + seconds_millis l) so ∙ ss.value in
    let t : total xs ≡ ms = omega (arith, hh.value, d.value) in
    let n : 2 + used xs ≡ suc (suc (length xs)) = omega (arith, hh.long, length-append (field_text 72 d.hours) (field_text 77 d.minutes ++ seconds_text d.seconds), length-append (field_text 77 d.minutes) (seconds_text d.seconds)) in
    let some : 2 < suc (suc (length xs)) = subst (λ l. 2 < length l) d.written d.some in
    ap duration_of d.written ∙ grind (arith, nat_tests)
