use Rattle.std.proofs.Common.{◌≡◌, ◌<◌, true, false, ◌&&◌, eqb, ltb, [], ◌∷◌, length, get_or, sym, ap, ◌∙◌, arith}
use Rattle.std.proofs.lemmas.Bool.{and_parts, ltb-true, eqb-true}
use Rattle.reader.specs.Machine.{start, word, declaration, outside, nothing, from}
use Rattle.reader.proofs.Outside.{start_plain, start_declared}
use Rattle.reader.proofs.lexer.markup.prolog.Goals as goal

pub returns-then-not-is_declared-clause-goes : goal.returns-then-not-is_declared-clause-goes
returns-then-not-is_declared-clause-goes c = λ at E A.
    let m = c.args.reader.now.src.now in
    ap (λ p. from m E A start p) at ∙ start_plain m E A (sym c.if-not-is_declared.ensures) ∙ sym (ap (λ p. from m E A (outside nothing) p) at)

pub returns-clause-goes : goal.returns-clause-goes
returns-clause-goes c = λ at E A.
    let m = c.args.reader.now.src.now in
    let is : (ltb 1 (length m) ≡ true) × ((eqb (get_or m 0 0) 60 && eqb (get_or m 1 0) 63) ≡ true) = and_parts _ _ (sym c.if-not-is_declared.ensures) in
    let both : (eqb (get_or m 0 0) 60 ≡ true) × (eqb (get_or m 1 0) 63 ≡ true) = and_parts _ _ is.1 in
    let long : 1 < length m = ltb-true 1 (length m) is.0 in
    let one = c.advance.ensures in
    let two = c.advance-2.ensures in
    let first = one.pos (omega arith) in
    let second = two.pos (omega (arith, ap length one.onward.src)) in
    let q = c.advance-2.new.self in
    let w = word 120 (109 ∷ 108 ∷ []) (declaration false) in
    ap (λ p. from m E A start p) at
    ∙ start_declared m E A long (eqb-true _ 60 both.0) (eqb-true _ 63 both.1)
    ∙ ap (λ p. from m E A w p) (omega arith)
    ∙ ap (λ l. from l E A w q.pos) (sym (two.onward.src ∙ one.onward.src))
    ∙ c.declaration.ensures.goes E A
