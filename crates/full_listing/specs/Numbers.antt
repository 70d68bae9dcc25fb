-- The number of a refusal that ends a listing.
use Rattle.std.specs.Prelude.{ℕ}
use Rattle.listing.specs.Numbers.{number as surveyNumber}
use Rattle.resolve.specs.Faults.{number as resolveNumber}
use Rattle.full_listing.specs.declared.fault.ListFault.{ListFault}
use Rattle.full_listing.specs.declared.fault.ListFault.TheVariants.{Survey, Resolve}

abbrev pub number : ListFault → ℕ
number (Survey e) = surveyNumber e
number (Resolve e) = resolveNumber e
