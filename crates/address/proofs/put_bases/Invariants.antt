-- What was put and the base URLs that are left are all of them.
use Rattle.std.proofs.Common.{◌≡◌, ℕ, List, ◌++◌, drop, Ok}
use Rattle.output.specs.Text.{Puts}
use Rattle.address.specs.Joining.{together, present}
use Rattle.address.proofs.put_bases.Given as goal

abbrev pub invariant-loop-base : goal.invariant-loop-base
invariant-loop-base l =
    (done : List ℕ)
    × Puts l.initial.bytes l.initial.guard.mark.now.used done l.bytes l.guard.mark.now.used (Ok tt)
    × (together (present l.bases) ≡ done ++ together (present (drop l.base-index l.bases)))
