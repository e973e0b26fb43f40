use Rattle.std.proofs.Common.{◌∙◌, ◌+◌, ◌<◌, ◌∷◌, false, drop, sym, ap, arith}
use Rattle.std.proofs.lemmas.List.{at_drop_more, at_drop_all}
use Rattle.theory.specs.Literals.{Literal}
use Rattle.simplify.proofs.SortedLiterals.{is_above, above-is, below-none}
use Rattle.simplify.proofs.literal_set.is_rising.Goals as goal

pub returns-then-var-least : goal.returns-then-var-least
returns-then-var-least c =
    let lits = c.args.lits.now in
    let place = c.loop-lit.lit-index in
    let least = c.loop-lit.least in
    let lit = c.lit-item.result in
    let small : lit.var < least = omega (arith, c.var-var.ensures.var, c.if-var-least.true) in
    let step = at_drop_more (is_above least) lits place lit c.loop-lit-test.true in
    let none = below-none least lit (drop (place + 1) lits) small in
    above-is false lits (sym (step ∙ (ap (λ (l : Literal). is_above least (l ∷ drop (place + 1) lits)) (sym c.lit-item.is) ∙ none)) ∙ c.loop-lit.invariant)

pub returns : goal.returns
returns c =
    above-is _ c.args.lits.now (sym (at_drop_all (is_above c.loop-lit.least) c.args.lits.now c.loop-lit.lit-index (omega arith)) ∙ c.loop-lit.invariant)
