use Rattle.std.proofs.Common.{◌≡◌, ℕ, ◌-◌, false, length}
use Rattle.reader.specs.Cursor.{comes, Onward}
use Rattle.reader.specs.Machine.{declaration}
use Rattle.reader.proofs.lexer.Reader.declaration.Given as goal

abbrev pub invariant-bytes : goal.invariant-bytes
invariant-bytes l = record { onward : Onward l.initial.self l.self; goes : (E A : ℕ) → comes l.initial.self E A (declaration false) ≡ comes l.self E A (declaration l.question) }

abbrev pub decreases-bytes : goal.decreases-bytes
decreases-bytes l = length l.self.src.now - l.self.pos
