-- What a call leaves and answers that puts a text made by a template.
use Rattle.std.specs.Prelude.{◌≡◌, ℕ, Bool, true, false, List, Ok, Err, Result}
use Rattle.output.specs.declared.NoRoom.{NoRoom}
use Rattle.output.specs.Text.{Puts}
use Rattle.address.specs.declared.ExpandFault.{ExpandFault}
use Rattle.address.specs.declared.ExpandFault.TheVariants.{Broken, NoRoom as FullOf}

-- the answer of a put, its refusal as a fault
abbrev pub as_fault : Result (Unit {0}) NoRoom → Result (Unit {0}) ExpandFault
as_fault (Ok u) = Ok u
as_fault (Err e) = Err (FullOf e)

-- where the template is broken nothing changes, and the answer says so; else the text is put
abbrev pub PutsUnless : Bool → List ℕ → ℕ → List ℕ → List ℕ → ℕ → Result (Unit {0}) ExpandFault → Type 0
PutsUnless true bytes used text bytes' used' r = (r ≡ Err Broken) × (bytes' ≡ bytes) × (used' ≡ used)
PutsUnless false bytes used text bytes' used' r =
    (answer : Result (Unit {0}) NoRoom) × Puts bytes used text bytes' used' answer × (r ≡ as_fault answer)
