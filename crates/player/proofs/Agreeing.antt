-- A replay with other addresses that are the same at every place of the timeline.
use Rattle.std.proofs.Common.{◌≡◌, ℕ, zero, suc, ◌+◌, ◌<◌, cond, ◌&&◌, List, [], ◌∷◌, ◌++◌, length, get_or, take, Some, None, Option, Result, refl, ap, ◌∙◌, subst, ap₂, inl, inr, arith}
use Rattle.output.specs.Text.{Puts}
use Rattle.timeline.specs.declared.segment.Segment.{Segment}
use Rattle.head.specs.Sequences.{Event, events, is_address, went_through, address_at, addresses, Stands, Output, Obeys, no_step, stood, Replays}
use Rattle.head.specs.declared.fault.HeadFault.{HeadFault}
use Rattle.head.specs.declared.step.Call.{Call}
use Rattle.head.specs.declared.step.Call.TheVariants.{Seek, On, Back, Address}
use Rattle.head.specs.declared.step.Step.{Step}
use Rattle.head.proofs.Writing.{stands_within}

-- a head that stands somewhere stands at a place of the timeline
stands_there : (xs : List Segment) (timescale : ℕ) (es : List Event) (place : Option ℕ) → Stands xs timescale es place → (p : ℕ) → place ≡ Some p → p < length xs
stands_there xs timescale es place s p e =
    elim s [
      | inl n ↦ let none = n.1 in let z : ◌≡◌ {A = ℕ} 0 1 = cc in absurd (omega arith)
      | inr m ↦ let at = m.stands in let same : m.at ≡ p = cc in omega (arith, m.there)
    ]

module _ (xs : List Segment) (a b : ℕ → List ℕ) (agree : (p : ℕ) → p < length xs → a p ≡ b p) where
  same_at : (place : Option ℕ) → ((p : ℕ) → place ≡ Some p → p < length xs) → address_at a place ≡ address_at b place
  same_at None there = refl
  same_at (Some p) there = agree p (there p refl)

  same_addresses : (calls : List Call) (steps : List Step) (n : ℕ) → ((k : ℕ) → k < n → (p : ℕ) → (get_or steps k no_step).place ≡ Some p → p < length xs) → addresses a (take n (events calls steps)) ≡ addresses b (take n (events calls steps))
  same_addresses [] steps zero there = refl
  same_addresses [] steps (suc n) there = refl
  same_addresses (c ∷ cs) [] zero there = refl
  same_addresses (c ∷ cs) [] (suc n) there = refl
  same_addresses (c ∷ cs) (s ∷ ss) zero there = refl
  same_addresses (c ∷ cs) (s ∷ ss) (suc n) there =
      ap₂ (λ t ts. t ++ ts)
      (ap (λ t. cond (is_address c && went_through s.answer) t []) (same_at s.place (there 0 (omega arith))))
      (same_addresses cs ss n (λ k h. there (suc k) (omega arith)))

  same_obeys : (timescale : ℕ) (place : Option ℕ) (call : Call) (r : Result (Unit {0}) HeadFault) (place' : Option ℕ) (o o' : Output) → Obeys xs a timescale place call r place' o o' → Obeys xs b timescale place call r place' o o'
  same_obeys timescale place (Seek ms) r place' o o' h = h
  same_obeys timescale place On r place' o o' h = h
  same_obeys timescale place Back r place' o o' h = h
  same_obeys timescale place Address r place' o o' h = record {
    there = λ p e.
        let put = h.there p e in
        (put.0, subst (λ t. Puts o.bytes o.used t o'.bytes o'.used put.0) (agree p (stands_within xs place p e).1) put.1, put.2);
    nowhere = h.nowhere;
  }

  pub same_replays : (timescale : ℕ) (calls : List Call) (steps steps' : List Step) (o o' : Output) (n : ℕ) → Replays xs a timescale calls steps steps' o o' n → Replays xs b timescale calls steps steps' o o' n
  same_replays timescale calls steps steps' o o' n r =
      let same = same_addresses calls steps' n (λ k h. stands_there xs timescale (take (k + 1) (events calls steps')) (get_or steps' k no_step).place (r.places k h)) in
      record {
        places = r.places;
        outputs = r.outputs;
        many = r.many;
        end = r.end;
        obeys = λ k h. same_obeys timescale (stood steps' k) (get_or calls k (Seek 0)) (get_or steps' k no_step).answer (get_or steps' k no_step).place (get_or (o ∷ r.outputs) k o) (get_or (o ∷ r.outputs) (k + 1) o) (r.obeys k h);
        mark = r.mark ∙ ap (λ t. o.used + length t) same;
        written = r.written ∙ ap (λ t. take o.used o.bytes ++ t) same;
        behind = r.behind;
      }
