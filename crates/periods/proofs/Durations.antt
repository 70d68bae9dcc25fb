-- How long a duration can be.
use Rattle.std.proofs.Common.{ℕ, ◌+◌, ◌≤◌, ◌&&◌, eqb, leb, List, length, drop, IfSome, Some, None, Ok, Err, Option}
use Rattle.std.proofs.lemmas.Bool.{cond_both, and_parts, leb-true}
use Rattle.values.specs.declared.ValueFault.TheVariants.{NoDuration}
use Rattle.values.specs.Duration.{duration_of, is_duration, begun}
use Rattle.values.specs.Fields.{total, used}
use Rattle.values.specs.Given.{answered, present}

-- at most a hundred million seconds, where there is a number
abbrev pub Small : Option ℕ → Type 0
Small o = IfSome o (λ ms. ms ≤ 100000000000)

pub present_small : (t : Option (List ℕ)) → Small (present duration_of t)
present_small None = tt
present_small (Some t) =
    let ms = total (drop 2 t) in
    let whole = eqb (2 + used (drop 2 t)) (length t) in
    let short = leb ms 100000000000 in
    cond_both (is_duration t) (Ok ms) (Err NoDuration) (λ r. Small (answered r))
    (λ h. leb-true ms 100000000000 (and_parts whole short (and_parts (begun t) (whole && short) h).1).1)
    (λ _. tt)
