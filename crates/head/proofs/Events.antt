-- The events of the first calls, and how many of a kind went through.
use Rattle.std.proofs.Common.{◌≡◌, ℕ, zero, suc, ◌+◌, ◌<◌, ◌≤◌, Bool, true, false, ◌&&◌, List, [], ◌∷◌, ◌++◌, length, get_or, take, set, filter, sym, refl, ap, ◌∙◌, append_assoc, append-nil, add-zero, arith, length-append}
use Rattle.std.proofs.lemmas.List.Elements.{filter-append}
use Rattle.head.specs.declared.step.Call.{Call}
use Rattle.head.specs.declared.step.Call.TheVariants.{Seek}
use Rattle.head.specs.declared.step.Step.{Step}
use Rattle.head.specs.Sequences.{Event, events, went_through, through, written_by, addresses}

-- a step that is written at i leaves the events before it
pub events_before : (calls : List Call) (steps : List Step) (i : ℕ) (s : Step) (k : ℕ) → k ≤ i → take k (events calls (set steps i s)) ≡ take k (events calls steps)
events_before [] steps i s k h = refl
events_before (c ∷ cs) [] i s k h = refl
events_before (c ∷ cs) (x ∷ xs) i s zero h = refl
events_before (c ∷ cs) (x ∷ xs) zero s (suc k) h = absurd (omega arith)
events_before (c ∷ cs) (x ∷ xs) (suc i) s (suc k) h =
    ap (λ es. record { call = c; answer = x.answer; place = x.place } ∷ es) (events_before cs xs i s k (omega arith))

-- and adds one event
pub events_more : (calls : List Call) (steps : List Step) (i : ℕ) (s : Step) → i < length calls → i < length steps → take (suc i) (events calls (set steps i s)) ≡ take i (events calls steps) ++ (record { call = get_or calls i (Seek 0); answer = s.answer; place = s.place } ∷ [])
events_more [] steps i s h l = absurd (omega arith)
events_more (c ∷ cs) [] i s h l = absurd (omega arith)
events_more (c ∷ cs) (x ∷ xs) zero s h l = refl
events_more (c ∷ cs) (x ∷ xs) (suc i) s h l =
    ap (λ es. record { call = c; answer = x.answer; place = x.place } ∷ es) (events_more cs xs i s (omega arith) (omega arith))

module _ (kind : Call → Bool) (es : List Event) (e : Event) where
  pub through_more : (kind e.call && went_through e.answer) ≡ true → through kind (es ++ (e ∷ [])) ≡ through kind es + 1
  through_more passes =
      ap length (filter-append (λ x. kind x.call && went_through x.answer) es (e ∷ []))
      ∙ length-append (filter (λ x. kind x.call && went_through x.answer) es) (filter (λ x. kind x.call && went_through x.answer) (e ∷ []))
      ∙ rw passes

  pub through_same : (kind e.call && went_through e.answer) ≡ false → through kind (es ++ (e ∷ [])) ≡ through kind es
  through_same fails =
      ap length (filter-append (λ x. kind x.call && went_through x.answer) es (e ∷ []))
      ∙ length-append (filter (λ x. kind x.call && went_through x.answer) es) (filter (λ x. kind x.call && went_through x.answer) (e ∷ []))
      ∙ rw fails (add-zero (length (filter (λ x. kind x.call && went_through x.answer) es)))

pub addresses_more : (address : ℕ → List ℕ) (es : List Event) (e : Event) → addresses address (es ++ (e ∷ [])) ≡ addresses address es ++ written_by address e
addresses_more address [] e = append-nil (written_by address e)
addresses_more address (x ∷ es) e =
    ap (λ l. written_by address x ++ l) (addresses_more address es e) ∙ sym (append_assoc (written_by address x) (addresses address es) (written_by address e))
