-- Rows that only gain, and what their room lets come.
use Rattle.std.proofs.Common.{◌≡◌, ℕ, Bool, ◌∙◌, sym, length, false, leb, MatchResult, Result, Ok, Err, ap, arith}
use Rattle.std.proofs.lemmas.Bool.{le-leb}
use Rattle.tables.specs.Rows.{held, capacity}
use Rattle.reader.specs.Machine.{State, Outcome}
use Rattle.reader.specs.Outcomes.{went}
use Rattle.reader.specs.Rows.{after, Gained, Attributed}
use Rattle.reader.specs.declared.fault.ReadFault.{ReadFault}
use Rattle.reader.specs.declared.lexer.Reader.{Reader}
use Rattle.reader.specs.declared.lexer.rows.Rows.{Rows}

pub gained_after : {t u : Rows} → Gained t u → (r : Reader) (s : State) → after r t s ≡ after r u s
gained_after g r s = let one = g.elements.capacity in let two = g.attributes.capacity in cc

pub attributed_after : {t u : Rows} → Attributed t u → (r : Reader) (s : State) → after r t s ≡ after r u s
attributed_after g r s = let one = ap capacity g.elements in let two = g.attributes.capacity in cc

-- attributes take no element's room
pub attributed_room : {t u : Rows} {b : Bool} → Attributed t u → b ≡ leb (capacity t.elements.now) (length (held t.elements.now)) → leb (capacity u.elements.now) (length (held u.elements.now)) ≡ b
attributed_room g h = ap (λ x. leb (capacity x) (length (held x))) g.elements ∙ sym h

-- a row that there is room for
pub roomy : {P : Type 0} (n k : ℕ) (y : Result (Unit {0}) ReadFault) (x z : Outcome) → MatchResult y (λ _. P) (λ _. k ≡ n) → leb n k ≡ false → (P → x ≡ z) → x ≡ went y (λ _. z)
roomy n k (Ok u) x z h full go = go h
roomy n k (Err f) x z h full go = let yes = le-leb n k (omega (arith, h)) in cc
