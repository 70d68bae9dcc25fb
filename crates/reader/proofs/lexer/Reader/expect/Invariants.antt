use Rattle.std.proofs.Common.{◌≡◌, ℕ, drop}
use Rattle.reader.specs.Cursor.{comes, Onward}
use Rattle.reader.specs.Machine.{State, reads}
use Rattle.reader.proofs.lexer.Reader.expect.Given as goal

abbrev pub invariant-loop-w : goal.invariant-loop-w
invariant-loop-w l = record { onward : Onward l.initial.self l.self; goes : (E A : ℕ) (s : State) → comes l.initial.self E A (reads l.word s) ≡ comes l.self E A (reads (drop l.w-index l.word) s) }
