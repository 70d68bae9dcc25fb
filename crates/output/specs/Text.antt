-- What a write behind the mark leaves.
use Rattle.std.specs.Prelude.{◌≡◌, ℕ, ◌+◌, ◌-◌, ◌<◌, ◌≤◌, min, List, length, Result, MatchResult}
use Rattle.std.proofs.Math.Seq.{paste}
use Rattle.output.specs.declared.NoRoom.{NoRoom}
use Rattle.output.specs.declared.Output.{Output}

-- the number of a refusal
abbrev pub number : NoRoom → ℕ
number e = 45

-- the count of bytes behind the mark: a mark past the end has none behind it
abbrev pub room : List ℕ → ℕ → ℕ
room bytes used = length bytes - used

-- the bytes after as much of the text as there is room for was put behind the mark
abbrev pub after : List ℕ → ℕ → List ℕ → List ℕ
after bytes used text = paste bytes used text (min (length text) (room bytes used))

-- the answer and the mark: a text that fits moves the mark past it, any other is refused and leaves the mark
abbrev pub Answered : ℕ → ℕ → ℕ → ℕ → Result (Unit {0}) NoRoom → Type 0
Answered free long used used' r = MatchResult r (λ _. (long ≤ free) × (used' ≡ used + long)) (λ _. (free < long) × (used' ≡ used))

-- putting the text behind the mark: the bytes and the mark before, the text, the bytes and the mark after, and the answer
pub record Puts (bytes : List ℕ) (used : ℕ) (text bytes' : List ℕ) (used' : ℕ) (r : Result (Unit {0}) NoRoom) : Type 0 where
  pub left : bytes' ≡ after bytes used text
  pub answer : Answered (room bytes used) (length text) used used' r

-- the same of an output before and after, which stays over the bytes that it was lent
pub record Written (o : Output) (text : List ℕ) (p : Output) (r : Result (Unit {0}) NoRoom) : Type 0 where
  pub lent : p.bytes.ghost_name ≡ o.bytes.ghost_name
  pub puts : Puts o.bytes.now o.mark.used text p.bytes.now p.mark.used r
