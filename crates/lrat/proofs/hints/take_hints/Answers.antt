use Rattle.std.proofs.Common.{◌∙◌, sym, subst}
use Rattle.theory.specs.Truth.{IsOver}
use Rattle.theory.proofs.literals.ClauseLemmas.{unit-fresh}
use Rattle.theory.proofs.literals.OverVariables.{AreOver-from_IsOver}
use Rattle.lrat.specs.Slots.{there}
use Rattle.theory.proofs.literals.ClauseWalks.{unit-has}
use Rattle.lrat.proofs.HintLemmas.{unit-hinted, take_hints-unit}
use Rattle.lrat.proofs.HeldLemmas.{Extends-push}
use Rattle.lrat.proofs.hints.take_hints.Goals as goal

pub push-requires-clause-is_variable : goal.push-requires-clause-is_variable
push-requires-clause-is_variable c =
    let over = subst (λ V. IsOver V c.in-Some.clause.now) (c.requires ∙ sym c.loop-index.invariant.vars) c.in-Some.ensures.over in
    AreOver-from_IsOver _ _ over c.in-Implies.lit (unit-has c.loop-index.held.literals c.in-Some.clause.now c.in-Implies.lit (unit-hinted _ c.in-Some.clause.now _ c.in-Implies.ensures))

pub push-requires-clause-is_free : goal.push-requires-clause-is_free
push-requires-clause-is_free c = unit-fresh _ c.in-Some.clause.now _ (unit-hinted _ c.in-Some.clause.now _ c.in-Implies.ensures)

pub loop-index-preserved : goal.loop-index-preserved
loop-index-preserved c =
    let more = c.in_ok-push-in-Implies.ensures.ok in
    record {
      left = rw more (take_hints-unit (there c.args.clauses.now) c.loop-index.held.literals c.args.hints.now c.loop-index.index c.in-Some.clause.now c.in-Implies.lit c.loop-index-test.true c.in-Some.ensures.clause c.in-Implies.ensures ∙ c.loop-index.invariant.left);
      extends = rw more (Extends-push _ _ c.in-Implies.lit c.loop-index.invariant.extends);
      vars = c.push.ensures.vars ∙ c.loop-index.invariant.vars;
    }
