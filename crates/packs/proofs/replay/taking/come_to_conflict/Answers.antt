use Rattle.std.proofs.Common.{◌∙◌, sym, subst}
use Rattle.theory.specs.Truth.{IsOver}
use Rattle.theory.specs.Replaying.{carrying_from}
use Rattle.theory.proofs.literals.ClauseLemmas.{unit-fresh}
use Rattle.theory.proofs.literals.ClauseWalks.{unit-has}
use Rattle.theory.proofs.literals.OverVariables.{AreOver-from_IsOver}
use Rattle.lrat.proofs.HintLemmas.{unit-hinted}
use Rattle.lrat.proofs.HeldLemmas.{Extends-push}
use Rattle.packs.specs.Known.{known}
use Rattle.packs.proofs.KnownLemmas.{ends-missing, ends-not_unit, ends-conflict, ends-open, goes_on, AreHeld-Extends}
use Rattle.packs.proofs.replay.taking.come_to_conflict.Goals as goal

pub returns-in_default-clause-conflict : goal.returns-in_default-clause-conflict
returns-in_default-clause-conflict c = λ N Q h.
    sym (ends-missing N c.loop-index.held.literals Q (known c.args.formula.now c.args.units.now c.args.lines.now) c.args.hints.now c.loop-index.index c.loop-index-test.true c.in_default.ensures.clause)
    ∙ c.loop-index.invariant.left N Q h

pub returns-in-False-clause-conflict : goal.returns-in-False-clause-conflict
returns-in-False-clause-conflict c = λ N Q h.
    let held = AreHeld-Extends Q _ _ c.loop-index.invariant.extends h in
    sym (ends-conflict N c.loop-index.held.literals Q (known c.args.formula.now c.args.units.now c.args.lines.now) c.args.hints.now c.loop-index.index c.in-Some.clause.now held c.loop-index-test.true c.in-Some.ensures.clause c.in-False.ensures)
    ∙ c.loop-index.invariant.left N Q h

pub returns-in-NotUnit-clause-conflict : goal.returns-in-NotUnit-clause-conflict
returns-in-NotUnit-clause-conflict c = λ N Q h.
    let held = AreHeld-Extends Q _ _ c.loop-index.invariant.extends h in
    sym (ends-not_unit N c.loop-index.held.literals Q (known c.args.formula.now c.args.units.now c.args.lines.now) c.args.hints.now c.loop-index.index c.in-Some.clause.now held c.loop-index-test.true c.in-Some.ensures.clause c.in-NotUnit.ensures)
    ∙ c.loop-index.invariant.left N Q h

pub push-requires-clause-is_variable : goal.push-requires-clause-is_variable
push-requires-clause-is_variable c =
    let over = subst (λ V. IsOver V c.in-Some.clause.now) (sym c.requires.vars ∙ sym c.loop-index.invariant.vars) c.in-Some.ensures.over in
    AreOver-from_IsOver _ _ over c.in-Implies.lit (unit-has c.loop-index.held.literals c.in-Some.clause.now c.in-Implies.lit (unit-hinted _ c.in-Some.clause.now _ c.in-Implies.ensures))

pub push-requires-clause-is_free : goal.push-requires-clause-is_free
push-requires-clause-is_free c = unit-fresh _ c.in-Some.clause.now _ (unit-hinted _ c.in-Some.clause.now _ c.in-Implies.ensures)

pub loop-index-preserved : goal.loop-index-preserved
loop-index-preserved c =
    let more = c.in_ok-push-in-Implies.ensures.ok in
    record {
      left = rw more (λ N Q h.
          let held = AreHeld-Extends Q _ _ c.loop-index.invariant.extends h in
          goes_on N c.loop-index.held.literals Q (known c.args.formula.now c.args.units.now c.args.lines.now) c.args.hints.now c.loop-index.index c.in-Some.clause.now c.in-Implies.lit held c.loop-index-test.true c.in-Some.ensures.clause c.in-Implies.ensures
          ∙ c.loop-index.invariant.left N Q h);
      extends = rw more (Extends-push _ _ c.in-Implies.lit c.loop-index.invariant.extends);
      vars = c.push.ensures.vars ∙ c.loop-index.invariant.vars;
    }

pub returns-clause-conflict : goal.returns-clause-conflict
returns-clause-conflict c = λ N Q h.
    sym (ends-open (carrying_from 1 N Q (known c.args.formula.now c.args.units.now c.args.lines.now)) c.loop-index.held.literals c.args.hints.now c.loop-index.index c.loop-index-test.false)
    ∙ c.loop-index.invariant.left N Q h
