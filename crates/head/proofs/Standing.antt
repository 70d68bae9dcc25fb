-- Where one more call leaves a head.
use Rattle.std.proofs.Common.{◌≡◌, ℕ, ◌+◌, ◌-◌, ◌<◌, false, ◌&&◌, ltb, ◌⊎◌, List, [], ◌∷◌, ◌++◌, length, Some, Ok, Err, Option, Result, sym, refl, ap, ◌∙◌, subst, inl, inr, append_assoc, arith}
use Rattle.std.proofs.lemmas.Bool.{cases_Bool, ltb-true, lt-ltb}
use Rattle.timeline.specs.declared.segment.Segment.{Segment}
use Rattle.timeline.specs.Segments.{Sound}
use Rattle.head.specs.declared.fault.HeadFault.{HeadFault}
use Rattle.head.specs.declared.fault.HeadFault.TheVariants.{OutOfRange, NoneCovers, Nowhere, NoNeighbour}
use Rattle.head.specs.declared.step.Call.{Call}
use Rattle.head.specs.declared.step.Call.TheVariants.{Seek, On, Back, Address}
use Rattle.head.specs.Heads.{Way, to, refused, seekable, tick_of, sought, onward, backward, reply, arrived, Covered, Seeks}
use Rattle.head.specs.Sequences.{Event, went_through, is_seek, is_on, is_back, through, Moves, Stands, Output, Obeys, left_at}
use Rattle.head.proofs.Covers.{cover_cases}
use Rattle.head.proofs.Seeking.{in_range, out_of_range}
use Rattle.head.proofs.Events.{through_more, through_same}

way_cases : (w : Way) → ((p : ℕ) × (w ≡ to p)) ⊎ ((e : HeadFault) × (w ≡ refused e))
way_cases (to p) = inl (p, refl)
way_cases (refused e) = inr (e, refl)

module _ (xs : List Segment) (at p : ℕ) (there : at < length xs) where
  next_place : onward xs (Some at) ≡ to p → (p ≡ at + 1) × (p < length xs)
  next_place e =
      elim (cases_Bool (ltb (at + 1) (length xs))) [
        | inl yes' ↦
            let w : to (at + 1) ≡ to p = rw (lt-ltb at (length xs) there, yes') at e in
            let s : at + 1 ≡ p = cc in
            (sym s, rw s at (ltb-true (at + 1) (length xs) yes'))
        | inr no' ↦ let w : refused NoNeighbour ≡ to p = rw (lt-ltb at (length xs) there, no') at e in absurd (cc)
      ]

  previous_place : backward xs (Some at) ≡ to p → (at ≡ p + 1) × (p < length xs)
  previous_place e =
      elim (cases_Bool (ltb 0 at)) [
        | inl yes' ↦
            let w : to (at - 1) ≡ to p = rw (lt-ltb at (length xs) there, yes') at e in
            let s : at - 1 ≡ p = cc in
            let some = ltb-true 0 at yes' in
            (omega arith, omega arith)
        | inr no' ↦ let w : refused NoNeighbour ≡ to p = rw (lt-ltb at (length xs) there, no') at e in absurd (cc)
      ]

module _ (xs : List Segment) (timescale : ℕ) (es : List Event) (place : Option ℕ) (now' : Stands xs timescale es place) where
  -- one more event since the seek, with the place that it leaves
  further : (m : Moves xs timescale es place) (e : Event) (p : ℕ) → (is_seek e.call && went_through e.answer) ≡ false → p + through is_back (m.since ++ (e ∷ [])) ≡ m.found + through is_on (m.since ++ (e ∷ [])) → p < length xs → Stands xs timescale (es ++ (e ∷ [])) (Some p)
  further m e p seek sum there =
      inr record {
        before = m.before;
        ms = m.ms;
        since = m.since ++ (e ∷ []);
        found = m.found;
        at = p;
        split = ap (λ l. l ++ (e ∷ [])) m.split ∙ append_assoc m.before (record { call = Seek m.ms; answer = Ok tt; place = Some m.found } ∷ m.since) (e ∷ []);
        last = through_same is_seek m.since e seek ∙ m.last;
        covered = m.covered;
        stands = refl;
        sum = sum;
        there = there;
      }

  -- an event that moves nothing
  stays : (e : Event) → (is_seek e.call && went_through e.answer) ≡ false → (is_on e.call && went_through e.answer) ≡ false → (is_back e.call && went_through e.answer) ≡ false → Stands xs timescale (es ++ (e ∷ [])) place
  stays e seek on back =
      elim now' [
        | inl n ↦ inl (through_same is_seek es e seek ∙ n.0, n.1)
        | inr m ↦ subst (λ q. Stands xs timescale (es ++ (e ∷ [])) q) (sym m.stands) (further m e m.at seek (rw (through_same is_back m.since e back, through_same is_on m.since e on) m.sum) m.there)
      ]

  goes_on : (p : ℕ) → onward xs place ≡ to p → Stands xs timescale (es ++ (record { call = On; answer = Ok tt; place = Some p } ∷ [])) (Some p)
  goes_on p e =
      let ev : Event = record { call = On; answer = Ok tt; place = Some p } in
      elim now' [
        | inl n ↦ let w : refused Nowhere ≡ to p = subst (λ q. onward xs q ≡ to p) n.1 e in absurd (cc)
        | inr m ↦
            let w : onward xs (Some m.at) ≡ to p = subst (λ q. onward xs q ≡ to p) m.stands e in
            let step = next_place xs m.at p m.there w in
            further m ev p refl (rw (through_same is_back m.since ev refl, through_more is_on m.since ev refl) (omega (arith, m.sum, step.0))) step.1
      ]

  goes_back : (p : ℕ) → backward xs place ≡ to p → Stands xs timescale (es ++ (record { call = Back; answer = Ok tt; place = Some p } ∷ [])) (Some p)
  goes_back p e =
      let ev : Event = record { call = Back; answer = Ok tt; place = Some p } in
      elim now' [
        | inl n ↦ let w : refused Nowhere ≡ to p = subst (λ q. backward xs q ≡ to p) n.1 e in absurd (cc)
        | inr m ↦
            let w : backward xs (Some m.at) ≡ to p = subst (λ q. backward xs q ≡ to p) m.stands e in
            let step = previous_place xs m.at p m.there w in
            further m ev p refl (rw (through_more is_back m.since ev refl, through_same is_on m.since ev refl) (omega (arith, m.sum, step.0))) step.1
      ]

  -- a seek that goes through, from wherever the head stood
  goes_to : (ms p : ℕ) → Covered xs (tick_of timescale ms) p → Stands xs timescale (es ++ (record { call = Seek ms; answer = Ok tt; place = Some p } ∷ [])) (Some p)
  goes_to ms p c =
      inr record {
        before = es;
        ms = ms;
        since = [];
        found = p;
        at = p;
        split = refl;
        last = refl;
        covered = c;
        stands = refl;
        sum = refl;
        there = c.there;
      }

  -- one more call
  module _ (ok : Sound xs) (r : Result (Unit {0}) HeadFault) (place' : Option ℕ) where
    seek_refused : (ms : ℕ) (e : HeadFault) → r ≡ Err e → place' ≡ place → Stands xs timescale (es ++ (record { call = Seek ms; answer = r; place = place' } ∷ [])) place'
    seek_refused ms e re pe = rw (re, pe) (stays record { call = Seek ms; answer = Err e; place = place } refl refl refl)

    seek_more : (ms : ℕ) → Seeks xs timescale ms place' r → place' ≡ arrived place (sought xs timescale ms) → Stands xs timescale (es ++ (record { call = Seek ms; answer = r; place = place' } ∷ [])) place'
    seek_more ms s at =
        elim (cases_Bool (seekable timescale ms)) [
          | inl may ↦ elim (cover_cases xs ok (tick_of timescale ms)) [
            | inl empty ↦ seek_refused ms NoneCovers (s.none may (ap length empty)) (at ∙ ap (arrived place) (in_range xs ok timescale ms may empty))
            | inr sole ↦
                let one = s.one may (ap length sole.0) in
                rw (one.0, one.1.1) (goes_to ms one.1.0 one.1.2)
          ]
          | inr not' ↦ seek_refused ms OutOfRange (s.out not') (at ∙ ap (arrived place) (out_of_range xs ok timescale ms not'))
        ]

    on_more : r ≡ reply (onward xs place) → place' ≡ arrived place (onward xs place) → Stands xs timescale (es ++ (record { call = On; answer = r; place = place' } ∷ [])) place'
    on_more re pe =
        elim (way_cases (onward xs place)) [
          | inl w ↦
              let a : r ≡ Ok tt = re ∙ ap reply w.1 in
              let b : place' ≡ Some w.0 = pe ∙ ap (arrived place) w.1 in
              rw (a, b) (goes_on w.0 w.1)
          | inr w ↦
              let a : r ≡ Err w.0 = re ∙ ap reply w.1 in
              let b : place' ≡ place = pe ∙ ap (arrived place) w.1 in
              rw (a, b) (stays record { call = On; answer = Err w.0; place = place } refl refl refl)
        ]

    back_more : r ≡ reply (backward xs place) → place' ≡ arrived place (backward xs place) → Stands xs timescale (es ++ (record { call = Back; answer = r; place = place' } ∷ [])) place'
    back_more re pe =
        elim (way_cases (backward xs place)) [
          | inl w ↦
              let a : r ≡ Ok tt = re ∙ ap reply w.1 in
              let b : place' ≡ Some w.0 = pe ∙ ap (arrived place) w.1 in
              rw (a, b) (goes_back w.0 w.1)
          | inr w ↦
              let a : r ≡ Err w.0 = re ∙ ap reply w.1 in
              let b : place' ≡ place = pe ∙ ap (arrived place) w.1 in
              rw (a, b) (stays record { call = Back; answer = Err w.0; place = place } refl refl refl)
        ]

    pub one_more : (address : ℕ → List ℕ) (call : Call) (o o' : Output) → Obeys xs address timescale place call r place' o o' → place' ≡ left_at xs timescale place call → Stands xs timescale (es ++ (record { call = call; answer = r; place = place' } ∷ [])) place'
    one_more address (Seek ms) o o' obeys at = seek_more ms obeys.0 at
    one_more address On o o' obeys at = on_more obeys.0 at
    one_more address Back o o' obeys at = back_more obeys.0 at
    one_more address Address o o' obeys at = rw at (stays record { call = Address; answer = r; place = place } refl refl refl)
