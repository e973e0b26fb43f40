use Rattle.std.proofs.Common.{◌++◌, ◌∷◌, [], subst}
use Rattle.std.specs.Prelude.{IfSome}
use Rattle.std.proofs.lemmas.List.Elements.{All-push, All-same}
use Rattle.gathering.specs.Facts.{IsTrueFact}
use Rattle.spread.specs.Solving.{IsSaidOf}
use Rattle.spread.proofs.breadth.step.Goals as goal

pub take_up-requires : goal.take_up-requires
take_up-requires g c =
    let said = subst (λ o. IfSome o (IsSaidOf c.args.formula.now c.args.plan c.args.cube)) c.in-Some.is c.in_ok-fact.ensures.said in
    said.fit

pub returns-clause-facts : goal.returns-clause-facts
returns-clause-facts g c =
    let P = IsTrueFact c.args.formula.now c.args.plan in
    let old = c.args.facts.now.items in
    let said = subst (λ o. IfSome o (IsSaidOf c.args.formula.now c.args.plan c.args.cube)) c.in-Some.is c.in_ok-fact.ensures.said in
    All-same P c.push.new.self.items (old ++ c.in-Some.fact ∷ []) c.in_ok-push.ensures.items (All-push P old c.in-Some.fact c.requires.facts said.true)
