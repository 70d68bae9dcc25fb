-- What is read is a duration.
use Rattle.std.proofs.Common.{◌≡◌, ℕ, ◌+◌, ◌-◌, ◌*◌, ◌^◌, ◌<◌, ◌≤◌, Bool, true, false, List, [], ◌∷◌, ◌++◌, length, get_or, drop, Ok, Err, Result, sym, refl, ap, ◌∙◌, ⊎_elim, append_assoc, append-nil, arith, length-drop, take-append-drop, MatchResult}
use Rattle.std.specs.List.{prefix_len}
use Rattle.std.proofs.lemmas.Bool.Decides.{nat_tests}
use Rattle.std.proofs.str.Laws.{order}
use Rattle.std.proofs.lemmas.List.{drop_more, get_or_past, length-take-le, drop-drop, drop_all}
use Rattle.values.specs.declared.ValueFault.{ValueFault}
use Rattle.values.specs.declared.ValueFault.TheVariants.{NoDuration}
use Rattle.values.specs.Whole.{digit, decimal}
use Rattle.values.specs.Fields.{front, field_len, field_num, behind, has_decimals, seconds_len, seconds_num, seconds_millis, minutes_on, seconds_on, total, used}
use Rattle.values.specs.Duration.{Field, absent, given, Seconds, whole, pointed, Digits, SoundField, SoundSeconds, field_text, seconds_text, field_value, seconds_value, Duration, duration_of}
use Rattle.values.proofs.Numbers.{front_digits}
use Rattle.values.proofs.Ways.{by_whole, by_point, decimals_parts}

-- the digits of a field that is there
record Some (u : ℕ) (xs : List ℕ) : Type 0 where
  ds : List ℕ
  sound : Digits ds
  text : xs ≡ (ds ++ (u ∷ [])) ++ drop (field_len u xs) xs
  value : field_num u xs ≡ decimal ds
  long : field_len u xs ≡ length ds + 1

some : (u : ℕ) (xs : List ℕ) → 0 < u → 0 < field_len u xs → Some u xs
some u xs p q =
    let pos : 0 < prefix_len digit xs = grind (arith, nat_tests) in
    let is : get_or xs (prefix_len digit xs) 0 ≡ u = grind (arith, nat_tests) in
    let l : field_len u xs ≡ prefix_len digit xs + 1 = grind (arith, nat_tests) in
    let n : field_num u xs ≡ decimal (front xs) = grind (arith, nat_tests) in
    let lt : prefix_len digit xs < length xs = ⊎_elim (λ y. y) (λ le. absurd (omega (arith, get_or_past xs (prefix_len digit xs) 0 le))) (order (prefix_len digit xs) (length xs)) in
    let m : length (front xs) ≡ prefix_len digit xs = length-take-le (prefix_len digit xs) xs (omega arith) in
    record {
      ds = front xs;
      sound = (front_digits xs, omega arith);
      text =
          sym (take-append-drop (prefix_len digit xs) xs)
          ∙ ap (λ y. front xs ++ y) (drop_more xs (prefix_len digit xs) 0 lt)
          ∙ ap (λ y. front xs ++ (y ∷ drop (prefix_len digit xs + 1) xs)) is
          ∙ sym (append_assoc (front xs) (u ∷ []) (drop (prefix_len digit xs + 1) xs))
          ∙ ap (λ y. (front xs ++ (u ∷ [])) ++ drop y xs) (sym l);
      value = n;
      long = omega arith;
    }

record Cut (u : ℕ) (xs : List ℕ) : Type 0 where
  field : Field
  sound : SoundField field
  text : xs ≡ field_text u field ++ drop (field_len u xs) xs
  value : field_num u xs ≡ field_value field

cut : (u : ℕ) (xs : List ℕ) → 0 < u → Cut u xs
cut u xs p = ⊎_elim there (λ le. missing (omega arith)) (order 0 (field_len u xs))
  where
    there : 0 < field_len u xs → Cut u xs
    there q = let s = some u xs p q in record { field = given s.ds; sound = s.sound; text = s.text; value = s.value }

    missing : field_len u xs ≡ 0 → Cut u xs
    missing z = record { field = absent; sound = tt; text = ap (λ k. drop k xs) (sym z); value = grind (arith, nat_tests) }

record CutSeconds (xs : List ℕ) : Type 0 where
  seconds : Seconds
  sound : SoundSeconds seconds
  text : xs ≡ seconds_text seconds ++ drop (seconds_len xs) xs
  value : seconds_num xs * 1000 + seconds_millis xs ≡ seconds_value seconds

cut_seconds : (xs : List ℕ) → CutSeconds xs
cut_seconds xs = ⊎_elim plain (λ le. go (has_decimals xs) refl (omega arith)) (order 0 (field_len 83 xs))
  where
    plain : 0 < field_len 83 xs → CutSeconds xs
    plain p =
        let c = some 83 xs (omega arith) p in
        let l : seconds_len xs ≡ field_len 83 xs = by_whole xs _ _ p in
        let v : seconds_num xs * 1000 + seconds_millis xs ≡ field_num 83 xs * 1000 = grind (arith, nat_tests) in
        record { seconds = whole c.ds; sound = c.sound; text = c.text ∙ ap (λ k. (c.ds ++ (83 ∷ [])) ++ drop k xs) (sym l); value = omega (arith, c.value) }

    go : (t : Bool) → has_decimals xs ≡ t → field_len 83 xs ≡ 0 → CutSeconds xs
    go true e z =
        let f = decimals_parts xs e in
        let c = some 46 xs (omega arith) f.0 in
        let d = some 83 (behind xs) (omega arith) f.1 in
        let l : seconds_len xs ≡ field_len 46 xs + field_len 83 (behind xs) = by_point xs _ _ z e in
        let v : seconds_num xs ≡ field_num 46 xs = by_point xs _ _ z e in
        let m : seconds_millis xs ≡ field_num 83 (behind xs) * 10 ^ (4 - field_len 83 (behind xs)) = by_point xs _ _ z e in
        let q : 4 - field_len 83 (behind xs) ≡ 3 - length d.ds = omega (arith, d.long) in
        let w : field_num 83 (behind xs) * 10 ^ (4 - field_len 83 (behind xs)) ≡ decimal d.ds * 10 ^ (3 - length d.ds) = ap (λ x. x * 10 ^ (4 - field_len 83 (behind xs))) d.value ∙ ap (λ x. decimal d.ds * 10 ^ x) q in
        let o : drop (field_len 83 (behind xs)) (behind xs) ≡ drop (seconds_len xs) xs = drop-drop (field_len 83 (behind xs)) (field_len 46 xs) xs ∙ ap (λ k. drop k xs) (sym l) in
        record {
          seconds = pointed c.ds d.ds;
          sound = (c.sound, d.sound, omega (arith, d.long, f.2));
          text = c.text ∙ ap (λ y. (c.ds ++ (46 ∷ [])) ++ y) (d.text ∙ ap (λ y. (d.ds ++ (83 ∷ [])) ++ y) o) ∙ (simp append_assoc);
          value = omega (arith, c.value, w);
        }
    go false e z =
        let l : seconds_len xs ≡ 0 = grind (arith, nat_tests) in
        record { seconds = absent; sound = tt; text = ap (λ k. drop k xs) (sym l); value = grind (arith, nat_tests) }

two : (s : List ℕ) → 2 < length s → s ≡ get_or s 0 0 ∷ (get_or s 1 0 ∷ drop 2 s)
two [] h = absurd (omega arith)
two (a ∷ []) h = absurd (omega arith)
two (a ∷ b ∷ s) h = refl

back : (s : List ℕ) (ms : ℕ) → Ok ms ≡ duration_of s → Duration s ms
back s ms e =
    let big : 2 < length s = grind (arith, nat_tests) in
    let p : get_or s 0 0 ≡ 80 = grind (arith, nat_tests) in
    let t : get_or s 1 0 ≡ 84 = grind (arith, nat_tests) in
    let n : 2 + used (drop 2 s) ≡ length s = grind (arith, nat_tests) in
    let sum : ms ≡ total (drop 2 s) = grind (arith, nat_tests) in
    let small : ms ≤ 100000000000 = grind (arith, nat_tests) in
    let h = cut 72 (drop 2 s) (omega arith) in
    let m = cut 77 (minutes_on (drop 2 s)) (omega arith) in
    let c = cut_seconds (seconds_on (drop 2 s)) in
    let none : drop (seconds_len (seconds_on (drop 2 s))) (seconds_on (drop 2 s)) ≡ [] = drop_all _ (seconds_on (drop 2 s)) (omega (arith, length-drop 2 s, length-drop (field_len 72 (drop 2 s)) (drop 2 s), length-drop (field_len 77 (minutes_on (drop 2 s))) (minutes_on (drop 2 s)))) in
    let last : seconds_on (drop 2 s) ≡ seconds_text c.seconds = c.text ∙ ap (λ y. seconds_text c.seconds ++ y) none ∙ append-nil (seconds_text c.seconds) in
    record {
      hours = h.field;
      minutes = m.field;
      seconds = c.seconds;
      hours_sound = h.sound;
      minutes_sound = m.sound;
      seconds_sound = c.sound;
      written =
          two s big
          ∙ ap (λ b. b ∷ (get_or s 1 0 ∷ drop 2 s)) p
          ∙ ap (λ b. 80 ∷ (b ∷ drop 2 s)) t
          ∙ ap (λ y. 80 ∷ (84 ∷ y)) (h.text ∙ ap (λ y. field_text 72 h.field ++ y) (m.text ∙ ap (λ y. field_text 77 m.field ++ y) last));
      some = big;
      value = omega (arith, h.value, m.value, c.value);
      small = small;
    }

pub sound : (s : List ℕ) (r : Result ℕ ValueFault) → r ≡ duration_of s → MatchResult r (λ ms. Duration s ms) (λ f. f ≡ NoDuration)
sound s (Ok ms) e = back s ms e
sound s (Err f) e = grind (arith, nat_tests)
