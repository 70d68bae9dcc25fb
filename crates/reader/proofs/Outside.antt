-- The bytes between tags, and those that begin a tag or a comment.
use Rattle.std.proofs.Common.{◌≡◌, ℕ, ◌+◌, ◌<◌, ◌≤◌, Bool, true, false, cond, ◌&&◌, ◌||◌, eqb, ltb, List, [], ◌∷◌, length, get_or, sym, refl, ap, ◌∙◌, ⊎_elim, arith}
use Rattle.std.proofs.lemmas.Bool.{eq-eqb, ne_eqb, lt-ltb, cases_lt, cases_eq, and_left, and_right, and_from, cond-true, cond-false}
use Rattle.reader.specs.Bytes.{blank, begins}
use Rattle.reader.specs.Cursor.{comes, Onward, Stands, Lacks, Ran}
use Rattle.reader.specs.Machine.{Document, start, begun, declaration, outside, angle, word, comment, naming, close, closing, closed, wrong, accepted, refused, inside, rootless, finished, nothing, shut, passes, step, from}
use Rattle.reader.specs.Outcomes.{fault}
use Rattle.reader.specs.declared.fault.ReadFault.{ReadFault}
use Rattle.reader.specs.declared.fault.ReadRefusal.TheVariants.{Grammar, Ampersand}
use Rattle.reader.specs.declared.lexer.Reader.{Reader}
use Rattle.reader.proofs.Cursor.{either_wrong, stood, steps, agree, fails, over, runs, stays}
use Rattle.reader.proofs.Runs.{from_end, from_to, from_same}
use Rattle.reader.proofs.Tags.{goes_on}

module _ (E A : ℕ) (d : Document) where
  -- what passes between tags
  module _ (i : Bool) {r q : Reader} (ran : Ran (passes i) r q) (is : i ≡ inside d) where
    to_outside : comes r E A (outside d) ≡ comes q E A (outside d)
    to_outside = stays E A ran (outside d) (λ at b y. cond-true _ _ _ (ap (λ t. passes t b) (sym is) ∙ y))

    pub outside_done : length q.src.now ≤ q.pos → finished d ≡ true → comes r E A (outside d) ≡ accepted d.elements d.attributes
    outside_done h f = to_outside ∙ over E A q h (outside d) ∙ cond-true _ _ _ f

    pub outside_ends : length q.src.now ≤ q.pos → finished d ≡ false → comes r E A (outside d) ≡ refused Grammar q.pos
    outside_ends h f = to_outside ∙ over E A q h (outside d) ∙ cond-false _ _ _ f

    module _ {b : ℕ} (st : Stands q b) where
      no_pass : passes (inside d) b ≡ false
      no_pass = ap (λ t. passes t b) (sym is) ∙ ap (passes i) st.is ∙ ran.stops st.before

      pub outside_angle : b ≡ 60 → {s : Reader} → Onward q s → s.pos ≡ q.pos + 1 → comes r E A (outside d) ≡ comes s E A (angle d)
      outside_angle y on pos = to_outside ∙ steps E A st on pos (outside d) (angle d) (cond-false _ _ _ no_pass ∙ cond-true _ _ _ (eq-eqb b 60 y))

      pub outside_other : (b ≡ 60 → ⊥) → comes r E A (outside d) ≡ refused (cond (i && eqb b 38) Ampersand Grammar) q.pos
      outside_other n = to_outside ∙ fails E A st (outside d) _ q.pos (cond-false _ _ _ no_pass ∙ cond-false _ _ _ (ne_eqb b 60 n) ∙ ap (λ t. cond (t && eqb b 38) (wrong Ampersand q.pos) (wrong Grammar q.pos)) (sym is) ∙ either_wrong (i && eqb b 38) q.pos)

  -- the byte behind a '<'
  module _ {r : Reader} {b : ℕ} (st : Stands r b) where
    pub angle_comment : b ≡ 33 → {q : Reader} → Onward r q → q.pos ≡ r.pos + 1 → comes r E A (angle d) ≡ comes q E A (word 45 (45 ∷ []) (comment 0 d))
    angle_comment y on pos = steps E A st on pos (angle d) (word 45 (45 ∷ []) (comment 0 d)) (cond-true _ _ _ (eq-eqb b 33 y))

    module _ (n : b ≡ 33 → ⊥) where
      pub angle_close : b ≡ 47 → inside d ≡ true → {q : Reader} → Onward r q → q.pos ≡ r.pos + 1 → comes r E A (angle d) ≡ comes q E A (close d)
      angle_close y i on pos = steps E A st on pos (angle d) (close d) (cond-false _ _ _ (ne_eqb b 33 n) ∙ cond-true _ _ _ (eq-eqb b 47 y) ∙ cond-true _ _ _ i)

      pub angle_stray : b ≡ 47 → inside d ≡ false → comes r E A (angle d) ≡ refused Grammar r.pos
      angle_stray y i = fails E A st (angle d) Grammar r.pos (cond-false _ _ _ (ne_eqb b 33 n) ∙ cond-true _ _ _ (eq-eqb b 47 y) ∙ cond-false _ _ _ i)

      module _ (k : b ≡ 47 → ⊥) where
        pub angle_other : {f : ReadFault} → Lacks begins r × (f ≡ fault Grammar r.pos) → comes r E A (angle d) ≡ refused f.refusal f.byte
        angle_other h =
            fails E A st (angle d) Grammar r.pos (cond-false _ _ _ (ne_eqb b 33 n) ∙ cond-false _ _ _ (ne_eqb b 47 k) ∙ cond-false _ _ _ (and_left (begins b) (inside d || rootless d) (ap begins st.is ∙ h.0 st.before)))
            ∙ ap (λ z. refused z.refusal z.byte) (sym h.1)

        pub angle_stop : (inside d || rootless d) ≡ false → comes r E A (angle d) ≡ refused Grammar r.pos
        angle_stop f = fails E A st (angle d) Grammar r.pos (cond-false _ _ _ (ne_eqb b 33 n) ∙ cond-false _ _ _ (ne_eqb b 47 k) ∙ cond-false _ _ _ (and_right (begins b) (inside d || rootless d) f))

        pub angle_name : {c : ℕ} → Stands r c × (begins c ≡ true) → (inside d || rootless d) ≡ true → comes r E A (angle d) ≡ comes r E A (naming d r.pos)
        angle_name h f =
            let y = stood begins st h in
            agree E A st (angle d) (naming d r.pos) (cond-false _ _ _ (ne_eqb b 33 n) ∙ cond-false _ _ _ (ne_eqb b 47 k) ∙ cond-true _ _ _ (and_from _ _ y f) ∙ sym (cond-true _ _ _ (goes_on b y)))

  -- the name of a closing tag begins
  pub close_name : {r : Reader} {b : ℕ} → Stands r b × (begins b ≡ true) → comes r E A (close d) ≡ comes r E A (closing d r.pos)
  close_name {r} {b} h = agree E A h.0 (close d) (closing d r.pos) (cond-true _ _ _ h.1 ∙ sym (cond-true _ _ _ (goes_on b h.1)))

  -- blanks behind the name of a closing tag, and then a '>'
  pub to_closed : {r q : Reader} → Ran blank r q → comes r E A (closed d) ≡ comes q E A (word 62 [] (outside (shut d)))
  to_closed ran = runs E A ran (closed d) (word 62 [] (outside (shut d))) (λ i x y. cond-true _ _ _ y) (λ b n. cond-false _ _ _ n) refl

-- the first bytes
module _ (m : List ℕ) (E A : ℕ) where
  pub start_declared : 1 < length m → get_or m 0 0 ≡ 60 → get_or m 1 0 ≡ 63 → from m E A start 0 ≡ from m E A (word 120 (109 ∷ 108 ∷ []) (declaration false)) 2
  start_declared h y q =
      from_to m E A start begun 0 (omega arith) (ap (λ b. step m E A start 0 b) y)
      ∙ from_to m E A begun (word 120 (109 ∷ 108 ∷ []) (declaration false)) 1 h (cond-true _ _ _ (eq-eqb _ 63 q))

  pub start_plain : (ltb 1 (length m) && (eqb (get_or m 0 0) 60 && eqb (get_or m 1 0) 63)) ≡ false → from m E A start 0 ≡ from m E A (outside nothing) 0
  start_plain f = ⊎_elim tag other (cases_eq (get_or m 0 0) 60)
    where
      other : (get_or m 0 0 ≡ 60 → ⊥) → from m E A start 0 ≡ from m E A (outside nothing) 0
      other n =
          let no-angle = ne_eqb (get_or m 0 0) 60 n in
          from_same m E A start (outside nothing) 0
          (λ lt. ap (λ t. cond (passes false (get_or m 0 0)) (outside nothing) (cond t begun (wrong Grammar 0))) no-angle ∙ sym (ap (λ t. cond (passes false (get_or m 0 0)) (outside nothing) (cond t (angle nothing) (wrong Grammar 0))) no-angle))
          refl

      no_question : get_or m 0 0 ≡ 60 → 1 < length m → eqb (get_or m 1 0) 63 ≡ false
      no_question y h = ap (λ t. t && (true && eqb (get_or m 1 0) 63)) (sym (lt-ltb 1 (length m) h)) ∙ ap (λ t. ltb 1 (length m) && (t && eqb (get_or m 1 0) 63)) (sym (eq-eqb (get_or m 0 0) 60 y)) ∙ f

      tag : get_or m 0 0 ≡ 60 → from m E A start 0 ≡ from m E A (outside nothing) 0
      tag y =
          ⊎_elim
          (λ h.
          from_to m E A start begun 0 h (ap (λ b. step m E A start 0 b) y)
          ∙ from_same m E A begun (angle nothing) 1 (λ lt. cond-false _ _ _ (no_question y lt)) refl
          ∙ sym (from_to m E A (outside nothing) (angle nothing) 0 h (ap (λ b. step m E A (outside nothing) 0 b) y)))
          (λ le. from_end m E A start 0 le ∙ sym (from_end m E A (outside nothing) 0 le))
          (cases_lt 0 (length m))
