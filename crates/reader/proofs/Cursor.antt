-- How the reading goes on where the cursor stands.
use Rattle.std.proofs.Common.{◌≡◌, ℕ, ◌+◌, ◌<◌, ◌≤◌, Bool, true, false, cond, ◌&&◌, eqb, length, get_or, Result, Ok, Err, sym, refl, ap, ◌∙◌, ⊎_elim, arith}
use Rattle.std.specs.Result.{IsErrAnd}
use Rattle.std.proofs.lemmas.Bool.{and_right, ne_eqb, cases_lt, cases_eq, cond-false}
use Rattle.tables.specs.Zero.{span}
use Rattle.tables.specs.declared.span.Span.{Span}
use Rattle.reader.specs.Cursor.{comes, Onward, Stands, Lacks, Took, Ran, Misses}
use Rattle.reader.specs.Machine.{State, Outcome, wrong, refused, step, ended, from}
use Rattle.reader.specs.Outcomes.{fault, went}
use Rattle.reader.specs.declared.fault.ReadFault.{ReadFault}
use Rattle.reader.specs.declared.fault.ReadRefusal.{ReadRefusal}
use Rattle.reader.specs.declared.fault.ReadRefusal.TheVariants.{Grammar, Ampersand}
use Rattle.reader.specs.declared.lexer.Reader.{Reader}
use Rattle.reader.proofs.Runs.{from_end, from_step, from_to, to_wrong, from_same, from_stays}

pub onward_more : {r q s : Reader} → Onward r q → Onward q s → Onward r s
onward_more a b = record { src = b.src ∙ a.src; further = omega arith }

-- a refusal that is handed on
pub handed : {X : Type 0} (x : Outcome) (r : Result X ReadFault) (f : ReadFault) (go : X → Outcome) → IsErrAnd r (λ y. y ≡ f) → x ≡ refused f.refusal f.byte → x ≡ went r go
handed x (Ok y) f go h e = absurd h
handed x (Err y) f go h e = e ∙ ap (λ z. refused z.refusal z.byte) (sym h)

pub blames : (k : ReadRefusal) (p at : ℕ) (f : ReadFault) → f ≡ fault k at → at ≡ p → refused k p ≡ refused f.refusal f.byte
blames k p at f h e = ap (λ n. refused k n) (sym e) ∙ ap (λ z. refused z.refusal z.byte) (sym h)

pub spans : (s : Span) (a p n k : ℕ) → s ≡ span a n → a ≡ p → n ≡ k → s ≡ span p k
spans s a p n k h e g = h ∙ ap (λ x. span x n) e ∙ ap (λ x. span p x) g

-- one byte stands at the cursor
pub stood : (class : ℕ → Bool) {r : Reader} {b c : ℕ} → Stands r b → Stands r c × (class c ≡ true) → class b ≡ true
stood class st h = ap class (st.is ∙ sym h.0.is) ∙ h.1

-- a byte that is not of a class with '>' does not end anything
pub ends_nothing : (class : ℕ → Bool) → class 62 ≡ true → (t : Bool) (b : ℕ) → class b ≡ false → (t && eqb b 62) ≡ false
ends_nothing class y t b n = ⊎_elim (λ e. let no : true ≡ false = sym y ∙ ap class (sym e) ∙ n in cc) (λ e. and_right t (eqb b 62) (ne_eqb b 62 e)) (cases_eq b 62)

pub either_wrong : (t : Bool) (at : ℕ) → cond t (wrong Ampersand at) (wrong Grammar at) ≡ wrong (cond t Ampersand Grammar) at
either_wrong true at = refl
either_wrong false at = refl

module _ (E A : ℕ) where
  -- the state behind the byte that stands there
  pub steps : {r q : Reader} {b : ℕ} → Stands r b → Onward r q → q.pos ≡ r.pos + 1 → (s t : State) → step r.src.now E A s r.pos b ≡ t → comes r E A s ≡ comes q E A t
  steps {r} {q} st on pos s t e =
      from_to r.src.now E A s t r.pos st.before (ap (λ x. step r.src.now E A s r.pos x) (sym st.is) ∙ e)
      ∙ ap (λ k. from r.src.now E A t k) (sym pos)
      ∙ ap (λ l. from l E A t q.pos) (sym on.src)

  pub takes : {class : ℕ → Bool} {r q : Reader} {b : ℕ} → Took class r q b → (s t : State) → step r.src.now E A s r.pos b ≡ t → comes r E A s ≡ comes q E A t
  takes took s t e = steps took.stood took.onward took.pos s t e

  -- two states that agree at the byte that stands there
  pub agree : {r : Reader} {b : ℕ} → Stands r b → (s t : State) → step r.src.now E A s r.pos b ≡ step r.src.now E A t r.pos b → comes r E A s ≡ comes r E A t
  agree {r} st s t e =
      from_step r.src.now E A s r.pos st.before
      ∙ ap (λ x. from r.src.now E A x (r.pos + 1)) (ap (λ x. step r.src.now E A s r.pos x) (sym st.is) ∙ e ∙ ap (λ x. step r.src.now E A t r.pos x) st.is)
      ∙ sym (from_step r.src.now E A t r.pos st.before)

  -- the byte that stands there is refused
  pub fails : {r : Reader} {b : ℕ} → Stands r b → (s : State) (k : ReadRefusal) (p : ℕ) → step r.src.now E A s r.pos b ≡ wrong k p → comes r E A s ≡ refused k p
  fails {r} st s k p e = to_wrong r.src.now E A s k p r.pos st.before (ap (λ x. step r.src.now E A s r.pos x) (sym st.is) ∙ e)

  -- the bytes end
  pub over : (r : Reader) → length r.src.now ≤ r.pos → (s : State) → comes r E A s ≡ ended r.src.now E A s r.pos
  over r h s = from_end r.src.now E A s r.pos h

  pub outs : {f : ReadFault} (r : Reader) → (length r.src.now ≤ r.pos) × (f ≡ fault Grammar r.pos) → (s : State) → ended r.src.now E A s r.pos ≡ refused Grammar r.pos → comes r E A s ≡ refused f.refusal f.byte
  outs r h s n = over r h.0 s ∙ n ∙ ap (λ z. refused z.refusal z.byte) (sym h.1)

  -- two states that agree at whatever comes
  pub alike : (r : Reader) (s t : State) → (r.pos < length r.src.now → step r.src.now E A s r.pos (get_or r.src.now r.pos 0) ≡ step r.src.now E A t r.pos (get_or r.src.now r.pos 0)) → ended r.src.now E A s r.pos ≡ ended r.src.now E A t r.pos → comes r E A s ≡ comes r E A t
  alike r s t e n = from_same r.src.now E A s t r.pos e n

  -- the byte that stands there is refused, and so is the end
  pub meets : (r : Reader) (s : State) (k : ReadRefusal) (p : ℕ) → (r.pos < length r.src.now → step r.src.now E A s r.pos (get_or r.src.now r.pos 0) ≡ wrong k p) → ended r.src.now E A s r.pos ≡ refused k p → comes r E A s ≡ refused k p
  meets r s k p e n = ⊎_elim (λ lt. to_wrong r.src.now E A s k p r.pos lt (e lt)) (λ le. over r le s ∙ n) (cases_lt r.pos (length r.src.now))

  -- what stands there is not of the class, or the bytes end
  pub lacks : {f : ReadFault} (class : ℕ → Bool) (r : Reader) → Lacks class r × (f ≡ fault Grammar r.pos) → (s : State) → ((b : ℕ) → class b ≡ false → step r.src.now E A s r.pos b ≡ wrong Grammar r.pos) → ended r.src.now E A s r.pos ≡ refused Grammar r.pos → comes r E A s ≡ refused f.refusal f.byte
  lacks class r h s e n = meets r s Grammar r.pos (λ lt. e (get_or r.src.now r.pos 0) (h.0 lt)) n ∙ ap (λ z. refused z.refusal z.byte) (sym h.1)

  -- a byte after the run of a class that leaves the state s as it is, where s and t agree
  pub runs : {class : ℕ → Bool} {r q : Reader} → Ran class r q → (s t : State) → ((at b : ℕ) → class b ≡ true → step r.src.now E A s at b ≡ s) → ((b : ℕ) → class b ≡ false → step q.src.now E A s q.pos b ≡ step q.src.now E A t q.pos b) → ended q.src.now E A s q.pos ≡ ended q.src.now E A t q.pos → comes r E A s ≡ comes q E A t
  runs {class} {r} {q} ran s t stays meet e =
      from_stays r.src.now E A s class stays r.pos q.pos ran.pos
      ∙ ap (λ l. from l E A s q.pos) (sym ran.onward.src)
      ∙ from_same q.src.now E A s t q.pos (λ lt. meet (get_or q.src.now q.pos 0) (ran.stops lt)) e

  -- the run of a class that leaves the state as it is
  pub stays : {class : ℕ → Bool} {r q : Reader} → Ran class r q → (s : State) → ((at b : ℕ) → class b ≡ true → step r.src.now E A s at b ≡ s) → comes r E A s ≡ comes q E A s
  stays ran s h = runs ran s s h (λ _ _. refl) refl

  -- not the byte b stands there
  pub misses : {b : ℕ} {r : Reader} {f : ReadFault} → Misses b r f → (class : ℕ → Bool) → Lacks class r → (s x : State) → ((c : ℕ) → class c ≡ false → step r.src.now E A s r.pos c ≡ cond (eqb c b) x (cond (eqb c 38) (wrong Ampersand r.pos) (wrong Grammar r.pos))) → ended r.src.now E A s r.pos ≡ refused Grammar r.pos → comes r E A s ≡ refused f.refusal f.byte
  misses {b} {r} {f} miss class h s x e n = ⊎_elim other ends (cases_lt r.pos (length r.src.now))
    where
      told : (k : ReadRefusal) → f.refusal ≡ k → refused k r.pos ≡ refused f.refusal f.byte
      told k is = let at = miss.byte in cc

      other : r.pos < length r.src.now → comes r E A s ≡ refused f.refusal f.byte
      other lt =
          to_wrong r.src.now E A s _ r.pos r.pos lt (e (get_or r.src.now r.pos 0) (h lt) ∙ cond-false _ _ _ (miss.other lt) ∙ either_wrong (eqb (get_or r.src.now r.pos 0) 38) r.pos)
          ∙ told _ (miss.why lt)

      ends : length r.src.now ≤ r.pos → comes r E A s ≡ refused f.refusal f.byte
      ends le = over r le s ∙ n ∙ told Grammar (miss.ends le)
