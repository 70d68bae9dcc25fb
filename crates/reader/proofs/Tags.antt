-- The bytes of tags, values and texts.
use Rattle.std.proofs.Common.{◌≡◌, ℕ, ◌+◌, ◌-◌, ◌<◌, ◌≤◌, Bool, true, false, cond, ◌&&◌, ◌||◌, eqb, ltb, List, [], get_or, drop, MatchResult, Result, Ok, Err, sym, refl, ap, ◌∙◌, ⊎_elim, add-zero, arith}
use Rattle.std.specs.List.{prefix_len}
use Rattle.std.proofs.lemmas.List.{get_or-drop}
use Rattle.std.proofs.lemmas.List.Sums.{prefix_len_passes}
use Rattle.std.proofs.lemmas.Bool.{and_left, and_right, and_from, eq-eqb, ne_eqb, lt-ltb, le-ltb, eqb-true, cases_lt, cases_eq, cond-true, cond-false}
use Rattle.tables.specs.Zero.{span}
use Rattle.tables.specs.declared.span.Span.{Span}
use Rattle.reader.specs.Bytes.{blank, begins, goes, from_to as among, quotes, textual, plain}
use Rattle.reader.specs.Machine.{Document, word, attribute, sign, quote, value, tag, text, outside, slash, wrong, refused, valued, opened, emptied, step, from}
use Rattle.reader.specs.Cursor.{comes, Onward, Stands, Lacks, Took, Ran, Misses}
use Rattle.reader.specs.Outcomes.{fault, went}
use Rattle.reader.specs.declared.fault.ReadFault.{ReadFault}
use Rattle.reader.specs.declared.fault.ReadRefusal.TheVariants.{Grammar}
use Rattle.reader.specs.declared.lexer.Reader.{Reader}
use Rattle.reader.proofs.Cursor.{stood, steps, takes, agree, fails, meets, alike, runs, stays, misses}

-- a run that is not empty begins with a byte of the class
leading : (p : ℕ → Bool) (m : List ℕ) (at : ℕ) → 0 < prefix_len p (drop at m) → p (get_or m at 0) ≡ true
leading p m at h = ap (λ k. p (get_or m k 0)) (sym (add-zero at)) ∙ ap p (sym (get_or-drop at m 0 0)) ∙ prefix_len_passes p (drop at m) 0 0 h

-- what begins a name goes on with it
pub goes_on : (b : ℕ) → begins b ≡ true → goes b ≡ true
goes_on b h = ap (λ t. t || among 48 57 b || eqb b 45 || eqb b 46) h

-- whether there were blanks
pub tight : (n k : ℕ) → n ≡ k → true ≡ eqb n 0 → ltb 0 k ≡ false
tight n k e h = le-ltb 0 k (omega (arith, eqb-true n 0 (sym h)))

pub wide : (n k : ℕ) → n ≡ k → false ≡ eqb n 0 → ltb 0 k ≡ true
wide n k e h = ⊎_elim (λ z. let yes = eq-eqb n 0 z in cc) (λ z. lt-ltb 0 k (omega arith)) (cases_eq n 0)

-- an element that was opened is open
inside_more : (k : ℕ) → ltb 0 (k + 1) ≡ true
inside_more k = lt-ltb 0 (k + 1) (omega arith)

-- blanks behind an attribute's name and behind its '=', the bytes of a value and of a text
module _ (E A : ℕ) (d : Document) (e : Span) where
  pub to_sign : (a : Span) {r q : Reader} → Ran blank r q → comes r E A (sign d e a) ≡ comes q E A (word 61 [] (quote d e a))
  to_sign a ran = runs E A ran (sign d e a) (word 61 [] (quote d e a)) (λ i x y. cond-true _ _ _ y) (λ b n. cond-false _ _ _ n) refl

  pub to_value : (a : Span) {r q : Reader} → Ran blank r q → (s : Reader) (x : Result ℕ ReadFault) → MatchResult x (λ b. Took quotes q s b) (λ f. Lacks quotes q × (f ≡ fault Grammar q.pos)) → comes r E A (quote d e a) ≡ went x (λ b. comes s E A (value d e a s.pos b))
  to_value a {r} {q} ran s (Ok b) h =
      stays E A ran (quote d e a) (λ i x y. cond-true _ _ _ y)
      ∙ takes E A h (quote d e a) (value d e a s.pos b) (cond-false _ _ _ (ap blank h.stood.is ∙ ran.stops h.stood.before) ∙ cond-true _ _ _ h.passed ∙ ap (λ p. value d e a p b) (sym h.pos))
  to_value a {r} {q} ran s (Err f) h =
      stays E A ran (quote d e a) (λ i x y. cond-true _ _ _ y)
      ∙ meets E A q (quote d e a) Grammar q.pos (λ lt. cond-false _ _ _ (ran.stops lt) ∙ cond-false _ _ _ (h.0 lt)) refl
      ∙ ap (λ z. refused z.refusal z.byte) (sym h.1)

  module _ (a : Span) (k : ℕ) {r q : Reader} (ran : Ran (plain k) r q) where
    to_end : comes r E A (value d e a r.pos k) ≡ comes q E A (value d e a r.pos k)
    to_end = stays E A ran (value d e a r.pos k) (λ i x y. cond-true _ _ _ y)

    pub value_missed : {f : ReadFault} → Misses k q f → comes r E A (value d e a r.pos k) ≡ refused f.refusal f.byte
    value_missed miss = to_end ∙ misses E A miss (plain k) ran.stops (value d e a r.pos k) _ (λ c n. cond-false _ _ _ n) refl

    pub value_met : {s : Reader} → Stands q k → Onward q s → s.pos ≡ q.pos + 1 → comes r E A (value d e a r.pos k) ≡ comes s E A (tag (valued d a (span r.pos (q.pos - r.pos))) e false)
    value_met st on pos = to_end ∙ steps E A st on pos (value d e a r.pos k) (tag (valued d a (span r.pos (q.pos - r.pos))) e false) (cond-false _ _ _ (ap (plain k) st.is ∙ ran.stops st.before) ∙ cond-true _ _ _ (eq-eqb k k refl))

  module _ {r q : Reader} (ran : Ran textual r q) where
    to_text : comes r E A (text d e r.pos) ≡ comes q E A (text d e r.pos)
    to_text = stays E A ran (text d e r.pos) (λ i x y. cond-true _ _ _ y)

    pub text_missed : {f : ReadFault} → Misses 60 q f → comes r E A (text d e r.pos) ≡ refused f.refusal f.byte
    text_missed miss = to_text ∙ misses E A miss textual ran.stops (text d e r.pos) _ (λ c n. cond-false _ _ _ n) refl

    pub text_met : Stands q 60 → comes r E A (text d e r.pos) ≡ comes q E A (outside (opened d e (span r.pos (q.pos - r.pos))))
    text_met st = to_text ∙ agree E A st (text d e r.pos) (outside (opened d e (span r.pos (q.pos - r.pos)))) (sym (cond-false _ _ _ (cond-true _ _ _ (inside_more d.depth))))

  -- the blanks of a start tag
  pub to_gap : {r q : Reader} → Ran blank r q → comes r E A (tag d e false) ≡ comes q E A (tag d e (ltb 0 (q.pos - r.pos)))
  to_gap {r} {q} ran = ⊎_elim some none (cases_lt r.pos q.pos)
    where
      some : r.pos < q.pos → comes r E A (tag d e false) ≡ comes q E A (tag d e (ltb 0 (q.pos - r.pos)))
      some h =
          let is = leading blank r.src.now r.pos (omega (arith, ran.pos)) in
          alike E A r (tag d e false) (tag d e true) (λ lt. cond-true _ _ _ is ∙ sym (cond-true _ _ _ is)) refl
          ∙ stays E A ran (tag d e true) (λ i x y. cond-true _ _ _ y)
          ∙ ap (λ t. comes q E A (tag d e t)) (sym (lt-ltb 0 (q.pos - r.pos) (omega arith)))

      none : q.pos ≤ r.pos → comes r E A (tag d e false) ≡ comes q E A (tag d e (ltb 0 (q.pos - r.pos)))
      none h =
          let same : r.pos ≡ q.pos = omega (arith, ran.pos) in
          ap (λ k. from r.src.now E A (tag d e false) k) same
          ∙ ap (λ l. from l E A (tag d e false) q.pos) (sym ran.onward.src)
          ∙ ap (λ t. comes q E A (tag d e t)) (sym (le-ltb 0 (q.pos - r.pos) (omega arith)))

  -- a byte of a start tag that is no blank
  module _ (gap : Bool) {r : Reader} {b : ℕ} (st : Stands r b) (stops : Lacks blank r) where
    no_blank : blank b ≡ false
    no_blank = ap blank st.is ∙ stops st.before

    pub tag_open : b ≡ 62 → {q : Reader} → Onward r q → q.pos ≡ r.pos + 1 → comes r E A (tag d e gap) ≡ comes q E A (text d e q.pos)
    tag_open y {q} on pos = steps E A st on pos (tag d e gap) (text d e q.pos) (cond-false _ _ _ no_blank ∙ cond-true _ _ _ (eq-eqb _ 62 y) ∙ ap (λ p. text d e p) (sym pos))

    module _ (n : b ≡ 62 → ⊥) where
      pub tag_slash : b ≡ 47 → {q : Reader} → Onward r q → q.pos ≡ r.pos + 1 → comes r E A (tag d e gap) ≡ comes q E A (word 62 [] (outside (emptied d e)))
      tag_slash y {q} on pos =
          steps E A st on pos (tag d e gap) (slash d e) (cond-false _ _ _ no_blank ∙ cond-false _ _ _ (ne_eqb _ 62 n) ∙ cond-true _ _ _ (eq-eqb _ 47 y))
          ∙ alike E A q (slash d e) (word 62 [] (outside (emptied d e))) (λ lt. refl) refl

      module _ (k : b ≡ 47 → ⊥) where
        tag_last : step r.src.now E A (tag d e gap) r.pos b ≡ cond (gap && begins b) (attribute d e r.pos) (wrong Grammar r.pos)
        tag_last = cond-false _ _ _ no_blank ∙ cond-false _ _ _ (ne_eqb _ 62 n) ∙ cond-false _ _ _ (ne_eqb _ 47 k)

        pub tag_tight : gap ≡ false → comes r E A (tag d e gap) ≡ refused Grammar r.pos
        tag_tight f = fails E A st (tag d e gap) Grammar r.pos (tag_last ∙ cond-false _ _ _ (and_left gap (begins b) f))

        pub tag_other : {f : ReadFault} → Lacks begins r × (f ≡ fault Grammar r.pos) → comes r E A (tag d e gap) ≡ refused f.refusal f.byte
        tag_other h =
            fails E A st (tag d e gap) Grammar r.pos (tag_last ∙ cond-false _ _ _ (and_right gap (begins b) (ap begins st.is ∙ h.0 st.before)))
            ∙ ap (λ z. refused z.refusal z.byte) (sym h.1)

        pub tag_attribute : gap ≡ true → {c : ℕ} → Stands r c × (begins c ≡ true) → comes r E A (tag d e gap) ≡ comes r E A (attribute d e r.pos)
        tag_attribute g h =
            let y = stood begins st h in
            agree E A st (tag d e gap) (attribute d e r.pos) (tag_last ∙ cond-true _ _ _ (and_from gap (begins b) g y) ∙ sym (cond-true _ _ _ (goes_on b y)))
