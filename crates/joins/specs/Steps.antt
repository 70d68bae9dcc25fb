-- What is known of an address while its parts are read from the last one to the front.
use Rattle.std.specs.Prelude.{ℕ, false, cond, ◌||◌, List, Some, None, Option}
use Rattle.std.specs.Borrow.{Bor}
use Rattle.address.specs.Joining.{absolute}
use Rattle.joins.specs.declared.Walk.{Walk}
use Rattle.joins.specs.Joints.{rooted, unfit}

-- where the last part alone was read
abbrev pub lastly : List ℕ → Walk
lastly part = record { begun = absolute part; slash = rooted part; misfit = false }

-- where one part more was read, which is joined
abbrev pub joining : Walk → List ℕ → Walk
joining w part = record { begun = absolute part; slash = rooted part; misfit = unfit part || (w.slash || w.misfit) }

-- where one base URL more was read: a part in front of the address's beginning is not joined, an absent one is no part
abbrev pub stepped : Walk → Option (Bor (List ℕ)) → Walk
stepped w None = w
stepped w (Some text) = cond w.begun w (joining w text.now)
