use Rattle.std.proofs.Common.{◌≡◌, ℕ, ◌-◌, length}
use Rattle.reader.specs.Cursor.{comes, Onward}
use Rattle.reader.specs.Machine.{Document, comment}
use Rattle.reader.proofs.lexer.Reader.comment.Given as goal

abbrev pub invariant-bytes : goal.invariant-bytes
invariant-bytes l = record { onward : Onward l.initial.self l.self; goes : (E A : ℕ) (d : Document) → comes l.initial.self E A (comment 0 d) ≡ comes l.self E A (comment l.dashes d) }

abbrev pub decreases-bytes : goal.decreases-bytes
decreases-bytes l = length l.self.src.now - l.self.pos
