-- The lines of a listing, and how they are put.
use Rattle.std.proofs.Common.{◌≡◌, ℕ, zero, suc, ◌+◌, ◌<◌, List, [], ◌∷◌, ◌++◌, length, get_or, slice_get, IsErrAnd, Some, Ok, Err, codes, Result, sym, refl, ap, ◌∙◌, subst, append_assoc, arith}
use Rattle.std.proofs.lemmas.Option.{slice_get_within, get_or_from_slice_get}
use Rattle.std.proofs.lemmas.Result.{err_from_is_err_and}
use Rattle.bottom.proofs.Told.{told_some, told_none}
use Rattle.output.specs.Digits.{padded}
use Rattle.output.specs.Text.{Puts}
use Rattle.output.specs.declared.NoRoom.{NoRoom}
use Rattle.timeline.proofs.Writes.{moved}
use Rattle.timeline.specs.Addresses.{Addressing, raised}
use Rattle.timeline.specs.Segments.{told, blank}
use Rattle.timeline.specs.declared.fault.AddressFault.{AddressFault}
use Rattle.timeline.specs.declared.fault.AddressFault.TheVariants.{NoSuchPlace as missing, NoRoom as full}
use Rattle.timeline.specs.declared.fault.NoSuchPlace.{NoSuchPlace}
use Rattle.timeline.specs.declared.segment.Segment.{Segment}
use Rattle.listing.specs.Lines.{text}
use Rattle.listing.specs.declared.line.Line.TheVariants.{Findings, Segments}
use Rattle.full_listing.specs.Lines.{segment_text, segment_lines, timeline_lines}

-- the fields before the address
abbrev pub times : Segment → List ℕ
times s = (padded 1 s.number ++ codes " ") ++ ((padded 1 s.start ++ codes " ") ++ (padded 1 s.length ++ codes " "))

regroup : (a b c d e f rest : List ℕ) → ((a ++ b) ++ ((c ++ d) ++ (e ++ f))) ++ rest ≡ a ++ (b ++ (c ++ (d ++ (e ++ (f ++ rest)))))
regroup a b c d e f rest = simp append_assoc

times_then : (s : Segment) (address : List ℕ) → times s ++ (address ++ (10 ∷ [])) ≡ segment_text s address
times_then s address = regroup (padded 1 s.number) (codes " ") (padded 1 s.start) (codes " ") (padded 1 s.length) (codes " ") (address ++ (10 ∷ []))

-- a segment that is told, and the put of its line
module _ (xs : List Segment) (i : ℕ) (s : Segment) (address : List ℕ) where
  pub line_put : {bytes bytes' : List ℕ} {used used' : ℕ} {q : Result (Unit {0}) NoRoom} {r : Result (Unit {0}) AddressFault} → Ok s ≡ told xs i → Puts bytes used (times s ++ (address ++ (10 ∷ []))) bytes' used' q → r ≡ raised q → Addressing (length xs) i (segment_text (get_or xs i blank) address) bytes used bytes' used' r
  line_put {bytes} {bytes'} {used} {used'} {q} e puts answer =
      let at = told_some xs i s e in
      record {
        there = λ lt. (q, subst (λ t. Puts bytes used t bytes' used' q) (times_then s address ∙ ap (λ x. segment_text x address) at.1) puts, answer);
        past = λ le. absurd (omega (arith, at.0));
      }

-- a place that is not told
pub line_none : (xs : List Segment) (i : ℕ) (e : NoSuchPlace) (text bytes : List ℕ) (used : ℕ) (r : Result (Unit {0}) AddressFault) → Err e ≡ told xs i → r ≡ Err (missing e) → Addressing (length xs) i text bytes used bytes used r
line_none xs i e text bytes used r none answer =
    let past = told_none xs i e none in
    record { there = λ lt. absurd (omega arith); past = λ le. (answer, refl, refl) }

module _ {count i used used' : ℕ} {text bytes bytes' : List ℕ} where
  -- the address of a place that is there: put, or refused for want of room
  pub address_put : {u : Unit {0}} → Addressing count i text bytes used bytes' used' (Ok u) → i < count → Puts bytes used text bytes' used' (Ok tt)
  address_put {u} w lt =
      let h = w.there lt in
      elim h.0 as (λ q. Puts bytes used text bytes' used' q → Ok u ≡ raised q → Puts bytes used text bytes' used' (Ok tt)) [
        | Ok v ↦ λ p e. p
        | Err f ↦ λ p e. let z : ◌≡◌ {A = ℕ} 0 1 = cc in absurd (omega arith)
      ] h.1 h.2

  pub address_refused : {f : AddressFault} → Addressing count i text bytes used bytes' used' (Err f) → i < count → (e : NoRoom) × Puts bytes used text bytes' used' (Err e) × (f ≡ full e)
  address_refused {f} w lt =
      let h = w.there lt in
      elim h.0 as (λ q. Puts bytes used text bytes' used' q → ◌≡◌ {A = Result (Unit {0}) AddressFault} (Err f) (raised q) → (e : NoRoom) × Puts bytes used text bytes' used' (Err e) × (f ≡ full e)) [
        | Ok v ↦ λ p e. let z : ◌≡◌ {A = ℕ} 0 1 = cc in absurd (omega arith)
        | Err d ↦ λ p e. (d, p, (cc))
      ] h.1 h.2

-- a line that is at the place: put, or refused for want of room
module _ (ls : List (List ℕ)) (i : ℕ) {t bytes bytes' : List ℕ} {used used' : ℕ} (at : slice_get ls i ≡ Some t) where
  at_line : {q : Result (Unit {0}) NoRoom} {r : Result (Unit {0}) AddressFault} → Puts bytes used t bytes' used' q → r ≡ raised q → Addressing (length ls) i (get_or ls i []) bytes used bytes' used' r
  at_line {q} puts answer = record {
    there = λ h. (q, subst (λ x. Puts bytes used x bytes' used' q) (sym (get_or_from_slice_get ls i t [] at)) puts, answer);
    past = λ h. let lt = slice_get_within ls i t at in absurd (omega arith);
  }

  pub put_there : {u v : Unit {0}} → Puts bytes used t bytes' used' (Ok u) → Addressing (length ls) i (get_or ls i []) bytes used bytes' used' (Ok v)
  put_there puts = at_line puts refl

  pub full_there : {e : NoRoom} {r : Result (Unit {0}) AddressFault} → Puts bytes used t bytes' used' (Err e) → IsErrAnd r (λ f. f ≡ full e) → Addressing (length ls) i (get_or ls i []) bytes used bytes' used' r
  full_there {r = r} puts err = let p = err_from_is_err_and r err in at_line puts (p.1 ∙ ap Err p.2)

module _ (address : ℕ → List ℕ) where
  pub length-lines : (k : ℕ) (xs : List Segment) → length (segment_lines address k xs) ≡ length xs
  length-lines k [] = refl
  length-lines k (x ∷ xs) = ap suc (length-lines (k + 1) xs)

  pub get_or-lines : (k : ℕ) (xs : List Segment) (i : ℕ) → i < length xs → get_or (segment_lines address k xs) i [] ≡ segment_text (get_or xs i blank) (address (k + i))
  get_or-lines k [] i h = absurd (omega arith)
  get_or-lines k (x ∷ xs) zero h = ap (λ n. segment_text x (address n)) (let e : k ≡ k + 0 = omega arith in e)
  get_or-lines k (x ∷ xs) (suc i) h =
      get_or-lines (k + 1) xs i (omega arith)
      ∙ ap (λ n. segment_text (get_or xs i blank) (address n)) (let e : k + 1 + i ≡ k + suc i = omega arith in e)

-- the line of a segment, two places behind the place of the segment
module _ (xs : List Segment) (address : ℕ → List ℕ) (i k : ℕ) (e : i ≡ suc (suc k)) where
  pub segment_at : {bytes bytes' : List ℕ} {used used' : ℕ} {r : Result (Unit {0}) AddressFault} → Addressing (length xs) k (segment_text (get_or xs k blank) (address k)) bytes used bytes' used' r → Addressing (length (timeline_lines xs address)) i (get_or (timeline_lines xs address) i []) bytes used bytes' used' r
  segment_at {bytes} {bytes'} {used} {used'} {r} w =
      let long = length-lines address 0 xs in
      rw e
      (moved (length xs) (suc (suc (length (segment_lines address 0 xs)))) k (suc (suc k)) (segment_text (get_or xs k blank) (address k)) (get_or (segment_lines address 0 xs) k []) bytes bytes' used used' r (λ h. omega arith) (λ h. omega arith)
      (λ h.
      let of = get_or-lines address 0 xs k (omega arith) in
      let from : 0 + k ≡ k = omega arith in
      sym (of ∙ ap (λ n. segment_text (get_or xs k blank) (address n)) from))
      w)

module _ (f g : ℕ → List ℕ) where
  lines_same : (k : ℕ) (xs : List Segment) → ((i : ℕ) → i < length xs → f (k + i) ≡ g (k + i)) → segment_lines f k xs ≡ segment_lines g k xs
  lines_same k [] h = refl
  lines_same k (x ∷ xs) h =
      let here : f k ≡ g k = let e : k + 0 ≡ k = omega arith in rw e at (h 0 (omega arith)) in
      let rest = lines_same (k + 1) xs (λ i l. let e : k + suc i ≡ k + 1 + i = omega arith in rw e at (h (suc i) (omega arith))) in
      ap (λ a. segment_text x a ∷ segment_lines f (k + 1) xs) here ∙ ap (λ ls. segment_text x (g k) ∷ ls) rest

  -- two timelines with the same segments and addresses
  pub timelines_same : (xs ys : List Segment) → xs ≡ ys → ((i : ℕ) → i < length ys → f i ≡ g i) → timeline_lines xs f ≡ timeline_lines ys g
  timelines_same xs ys e h =
      ap (λ zs. timeline_lines zs f) e
      ∙ ap (λ ls. text (Findings 0) ∷ text (Segments (length ys)) ∷ ls) (lines_same 0 ys (λ i l. let z : 0 + i ≡ i = omega arith in rw z (h i l)))

-- the same lines under another name
module _ (ls ks : List (List ℕ)) (i : ℕ) where
  pub same_lines : {bytes bytes' : List ℕ} {used used' : ℕ} {r : Result (Unit {0}) AddressFault} → ls ≡ ks → Addressing (length ks) i (get_or ks i []) bytes used bytes' used' r → Addressing (length ls) i (get_or ls i []) bytes used bytes' used' r
  same_lines {bytes} {bytes'} {used} {used'} {r} e w = subst (λ xs. Addressing (length xs) i (get_or xs i []) bytes used bytes' used' r) (sym e) w
