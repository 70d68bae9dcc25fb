-- The fields are all of the text and not too long a time, or it is no duration.
use Rattle.std.proofs.Common.{refl, ◌∙◌, arith, rules}
use Rattle.std.proofs.lemmas.Bool.Decides.{nat_tests}
use Rattle.values.proofs.Sum.{bounded, refused, read}
use Rattle.values.proofs.Complete.{complete}
use Rattle.values.proofs.Sound.{sound}
use Rattle.values.proofs.duration.Goals as goal

pub overflow_add-total-2 : goal.overflow_add-total-2
overflow_add-total-2 c = omega (arith, bounded _ _ _ _ _ _ _ refl c.field.ensures c.unwrap_or-hours.ensures c.field-2.ensures c.unwrap_or-minutes.ensures c.seconds.ensures.read c.unwrap_or-seconds.ensures c.seconds.ensures.few)

pub returns-then-not-is_empty-clause-computed : goal.returns-then-not-is_empty-clause-computed
returns-then-not-is_empty-clause-computed c =
    refused _ _ _ _ _ _ _ refl c.field.ensures c.unwrap_or-hours.ensures c.field-2.ensures c.unwrap_or-minutes.ensures c.seconds.ensures.read c.unwrap_or-seconds.ensures c.args.text.now (search rules) (search rules) (grind (arith, nat_tests))

pub returns-then-not-is_empty-clause-complete : goal.returns-then-not-is_empty-clause-complete
returns-then-not-is_empty-clause-complete c = λ ms d. returns-then-not-is_empty-clause-computed c ∙ complete c.args.text.now ms d

pub returns-clause-computed : goal.returns-clause-computed
returns-clause-computed c =
    read _ _ _ _ _ _ _ refl c.field.ensures c.unwrap_or-hours.ensures c.field-2.ensures c.unwrap_or-minutes.ensures c.seconds.ensures.read c.unwrap_or-seconds.ensures c.args.text.now (search rules) (search rules) (grind (arith, nat_tests)) c.if-total-gt-LONGEST.false

pub returns-clause-sound : goal.returns-clause-sound
returns-clause-sound c = sound c.args.text.now _ (returns-clause-computed c)

pub returns-clause-complete : goal.returns-clause-complete
returns-clause-complete c = λ ms d. returns-clause-computed c ∙ complete c.args.text.now ms d
