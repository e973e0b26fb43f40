use Rattle.std.proofs.Common.{◌++◌, ◌∷◌, [], ap, sym, subst, ◌∙◌, take, arith}
use Rattle.std.proofs.lemmas.List.{take_more, take_all}
use Rattle.std.proofs.lemmas.List.Elements.{All-push}
use Rattle.theory.specs.Literals.{Literal, IsVariable}
use Rattle.theory.specs.Truth.{IsOver}
use Rattle.packs.proofs.replay.holding.is_over.Goals as goal

pub loop-lit-preserved : goal.loop-lit-preserved
loop-lit-preserved c =
    let xs = c.args.clause.now in
    let at = c.loop-lit.lit-index in
    let lit = c.lit-item.result in
    let high = c.if-var-vars.false in
    let within : IsVariable c.args.vars lit.var = (omega arith, omega arith) in
    subst (IsOver c.args.vars) (ap (λ k. take at xs ++ k ∷ []) c.lit-item.is ∙ sym (take_more xs at lit c.loop-lit-test.true))
    (All-push (λ (l : Literal). IsVariable c.args.vars l.var) (take at xs) lit c.loop-lit.invariant within)

pub returns-clause-over : goal.returns-clause-over
returns-clause-over c = λ _. subst (IsOver c.args.vars) (take_all c.loop-lit.lit-index c.args.clause.now c.loop-lit-test.false) c.loop-lit.invariant
