-- A sequence of calls, one call after another.
use Rattle.std.proofs.Common.{◌≡◌, ℕ, zero, suc, ◌+◌, ◌<◌, ◌≤◌, List, [], ◌∷◌, ◌++◌, length, get_or, take, drop, set, Option, sym, refl, ap, ◌∙◌, inl, append_assoc, append-nil, add-zero, add-one, arith, length-append, drop-drop, drop-set-lt, below_more}
use Rattle.std.proofs.lemmas.List.{get_or-set_same, get_or-set_other, get_or_append_left, get_or_at}
use Rattle.timeline.specs.declared.segment.Segment.{Segment}
use Rattle.timeline.specs.Segments.{Sound}
use Rattle.head.specs.declared.step.Call.{Call}
use Rattle.head.specs.declared.step.Call.TheVariants.{Seek}
use Rattle.head.specs.declared.step.Step.{Step}
use Rattle.head.specs.Sequences.{events, written_by, addresses, Stands, Output, Obeys, left_at, no_step, stood, Replays}
use Rattle.head.proofs.Events.{events_before, events_more, addresses_more}
use Rattle.head.proofs.Putting.{Adds, obeys_adds}
use Rattle.head.proofs.Standing.{one_more}

-- a step that is written at i leaves where the head stood before
stood_before : (steps : List Step) (i : ℕ) (s : Step) (k : ℕ) → k ≤ i → stood (set steps i s) k ≡ stood steps k
stood_before steps i s zero h = refl
stood_before steps i s (suc k) h = ap (λ x. x.place) (get_or-set_other steps i k s no_step (omega arith))

drop_more : {A : Type 0} (xs ys : List A) (n : ℕ) → drop n xs ≡ drop n ys → drop (n + 1) xs ≡ drop (n + 1) ys
drop_more xs ys n e = sym (drop-drop 1 n xs) ∙ ap (drop 1) e ∙ drop-drop 1 n ys

module _ (xs : List Segment) (ok : Sound xs) (address : ℕ → List ℕ) (timescale : ℕ) (calls : List Call) (first : List Step) (o : Output) where
  pub replays_none : Replays xs address timescale calls first first o o 0
  replays_none = record {
    places = λ k h. absurd (omega arith);
    outputs = [];
    many = refl;
    end = refl;
    obeys = λ k h. absurd (omega arith);
    mark = sym (add-zero o.used);
    written = sym (append-nil (take o.used o.bytes));
    behind = refl;
  }

  so_far : (steps : List Step) (o' : Output) (i : ℕ) → Replays xs address timescale calls first steps o o' i → Stands xs timescale (take i (events calls steps)) (stood steps i)
  so_far steps o' zero r = inl (refl, refl)
  so_far steps o' (suc j) r = rw add-one at (r.places j (omega arith))

  module _ (steps : List Step) (i : ℕ) (s : Step) (o₁ o₂ : Output) (called : i < length calls) (noted : i < length steps) (r : Replays xs address timescale calls first steps o o₁ i) where
    earlier : (k : ℕ) → k < i → get_or (set steps i s) k no_step ≡ get_or steps k no_step
    earlier k h = get_or-set_other steps i k s no_step (omega arith)

    here : get_or (set steps i s) i no_step ≡ s
    here = get_or-set_same steps i s no_step noted

    kept_output : (k : ℕ) → k ≤ i → get_or (o ∷ (r.outputs ++ (o₂ ∷ []))) k o ≡ get_or (o ∷ r.outputs) k o
    kept_output k h = get_or_append_left (o ∷ r.outputs) (o₂ ∷ []) o k (omega (arith, r.many))

    new_output : get_or (o ∷ (r.outputs ++ (o₂ ∷ []))) (i + 1) o ≡ o₂
    new_output = get_or_at (o ∷ r.outputs) o₂ [] o (i + 1) (omega (arith, r.many))

    -- the addresses that were written, with what one more call wrote
    module _ (more : Adds address (get_or calls i (Seek 0)) s.answer s.place o₁ o₂) where
      grown : addresses address (take (i + 1) (events calls (set steps i s))) ≡ addresses address (take i (events calls steps)) ++ written_by address record { call = get_or calls i (Seek 0); answer = s.answer; place = s.place }
      grown =
          ap (λ n. addresses address (take n (events calls (set steps i s)))) (add-one i)
          ∙ ap (addresses address) (events_more calls steps i s called noted)
          ∙ addresses_more address (take i (events calls steps)) record { call = get_or calls i (Seek 0); answer = s.answer; place = s.place }

      mark_more : o₂.used ≡ o.used + length (addresses address (take (i + 1) (events calls (set steps i s))))
      mark_more =
          rw (grown, length-append (addresses address (take i (events calls steps))) (written_by address record { call = get_or calls i (Seek 0); answer = s.answer; place = s.place }))
          (omega (arith, more.0, r.mark))

      written_more : take o₂.used o₂.bytes ≡ take o.used o.bytes ++ addresses address (take (i + 1) (events calls (set steps i s)))
      written_more =
          more.1
          ∙ ap (λ l. l ++ written_by address record { call = get_or calls i (Seek 0); answer = s.answer; place = s.place }) r.written
          ∙ append_assoc (take o.used o.bytes) (addresses address (take i (events calls steps))) (written_by address record { call = get_or calls i (Seek 0); answer = s.answer; place = s.place })
          ∙ ap (λ l. take o.used o.bytes ++ l) (sym grown)

    pub replays_more : Obeys xs address timescale (stood steps i) (get_or calls i (Seek 0)) s.answer s.place o₁ o₂ → s.place ≡ left_at xs timescale (stood steps i) (get_or calls i (Seek 0)) → Replays xs address timescale calls first (set steps i s) o o₂ (i + 1)
    replays_more obeys at = record {
      places = below_more (λ k. Stands xs timescale (take (k + 1) (events calls (set steps i s))) (get_or (set steps i s) k no_step).place) i
          (λ k h. rw (events_before calls steps i s (k + 1) (omega arith), earlier k h) (r.places k h))
          (rw (add-one, events_more calls steps i s called noted, here) (one_more xs timescale (take i (events calls steps)) (stood steps i) (so_far steps o₁ i r) ok s.answer s.place address (get_or calls i (Seek 0)) o₁ o₂ obeys at));
      outputs = r.outputs ++ (o₂ ∷ []);
      many = length-append r.outputs (o₂ ∷ []) ∙ omega (arith, r.many);
      end = new_output;
      obeys = below_more (λ k. Obeys xs address timescale (stood (set steps i s) k) (get_or calls k (Seek 0)) (get_or (set steps i s) k no_step).answer (get_or (set steps i s) k no_step).place (get_or (o ∷ (r.outputs ++ (o₂ ∷ []))) k o) (get_or (o ∷ (r.outputs ++ (o₂ ∷ []))) (k + 1) o)) i
          (λ k h. rw (stood_before steps i s k (omega arith), earlier k h, kept_output k (omega arith), kept_output (k + 1) (omega arith)) (r.obeys k h))
          (rw (stood_before steps i s i (omega arith), here, kept_output i (omega arith), r.end, new_output) obeys);
      mark = mark_more (obeys_adds xs address timescale (stood steps i) s.answer s.place (get_or calls i (Seek 0)) o₁ o₂ obeys at);
      written = written_more (obeys_adds xs address timescale (stood steps i) s.answer s.place (get_or calls i (Seek 0)) o₁ o₂ obeys at);
      behind = drop-set-lt (i + 1) steps i s (omega arith) ∙ drop_more steps first i r.behind;
    }

    -- the same, of a head that stands there
    pub replays_turn : (ts : ℕ) (place place' : Option ℕ) → ts ≡ timescale → place ≡ stood steps i → s.place ≡ place' → Obeys xs address ts place (get_or calls i (Seek 0)) s.answer place' o₁ o₂ → place' ≡ left_at xs ts place (get_or calls i (Seek 0)) → Replays xs address timescale calls first (set steps i s) o o₂ (i + 1)
    replays_turn ts place place' et ep es obeys at = replays_more (rw (← et, ← ep, es) obeys) (rw (← et, ← ep, es) at)

    pub stood_next : stood (set steps i s) (i + 1) ≡ s.place
    stood_next = rw add-one (ap (λ x. x.place) here)
