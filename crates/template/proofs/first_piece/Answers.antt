use Rattle.std.proofs.Common.{drop, sym, rules, tests}
use Rattle.template.specs.declared.Identifier.TheVariants.{Number, Bandwidth, Time}
use Rattle.template.specs.Pieces.{text_of}
use Rattle.template.specs.Reading.{measured, value_of}
use Rattle.template.proofs.Steps.{measured_values, or_said}
use Rattle.template.proofs.first_piece.Goals as goal

pub returns : goal.returns
returns c =
    let t = drop 1 c.args.text.now in
    let a = or_said c.first_value.result (measured text_of (value_of Number t)) c.or_else.result _ c.or_else.ensures (λ k. search (rules, tests)) in
    let b = or_said c.or_else.result (measured text_of (value_of Bandwidth t)) c.or_else-2.result _ c.or_else-2.ensures (λ k. search (rules, tests)) in
    let d = or_said c.or_else-2.result (measured text_of (value_of Time t)) c.or_else-3.result _ c.or_else-3.ensures (λ k. search (rules, tests)) in
    let e = measured_values c.args.text.now c.if-text-ne36.false (sym c.if-begins_at.ensures) in
    cc
