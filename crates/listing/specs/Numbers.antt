-- The number of a refusal that ends a listing.
use Rattle.std.specs.Prelude.{ℕ}
use Rattle.reader.specs.Numbers.{number as readNumber}
use Rattle.rules.specs.Faults.{fault_number}
use Rattle.listing.specs.declared.fault.ListFault.{ListFault}
use Rattle.listing.specs.declared.fault.ListFault.TheVariants.{Read, Check}

abbrev pub number : ListFault → ℕ
number (Read e) = readNumber e.refusal
number (Check e) = fault_number e
