use Rattle.std.proofs.Common.{◌≡◌, [], refl, ◌∙◌, sym}
use Rattle.theory.proofs.literals.ClauseWalks.{beq-same, beq-other, at-place, has-before}
use Rattle.lrat.proofs.Values.{value-none, value-held, value-other}
use Rattle.lrat.proofs.HeldLemmas.{Extends-push}
use Rattle.packs.proofs.HoldingLemmas.{Denies-nothing, deny-push, deny-held, deny-whole, signs-held, signs-none}
use Rattle.packs.proofs.replay.holding.negate.Goals as goal
use Rattle.packs.proofs.replay.holding.negate.Goals.{in-None+in_ok-push-in-None, in-Some+else-value-positive}

pub push-requires-clause-is_free : goal.push-requires-clause-is_free
push-requires-clause-is_free c = rw c.negated.ensures (value-none c.loop-lit.held.literals c.lit-item.result.var (rw c.var.ensures.var at (sym c.in-None.ensures.value)))

pub returns-then-value-positive-clause-both : goal.returns-then-value-positive-clause-both
returns-then-value-positive-clause-both c = λ Q h.
    let value = rw c.var.ensures.var at (sym c.in-Some.ensures.value) in
    sym (signs-held c.args.clause.now Q c.loop-lit.held.literals c.loop-lit.lit-index c.lit-item.result
    (at-place c.args.clause.now c.loop-lit.lit-index c.lit-item.result c.lit-item.is c.loop-lit-test.true)
    (has-before c.args.clause.now c.loop-lit.lit-index)
    (value-held c.loop-lit.held.literals c.lit-item.result c.in-Some.value value (beq-same _ _ c.if-value-positive.true ∙ c.positive.ensures))
    (c.loop-lit.invariant.denied Q h))

pub loop-lit-init : goal.loop-lit-init
loop-lit-init c = record {
  denied = λ Q h. Denies-nothing Q c.args.held.now.literals h;
  extends = record { later = []; whole = refl };
  vars = refl;
}

pub loop-lit-preserved : goal.loop-lit-preserved
loop-lit-preserved c = elim c.match-value.branch [
  | in-None+in_ok-push-in-None w ↦ rw (w.held-is, w.in_ok-push-in-None.ensures.ok, w.negated.ensures) record {
    denied = λ Q h. deny-push c.args.clause.now Q c.loop-lit.held.literals c.loop-lit.lit-index c.lit-item.result c.loop-lit-test.true c.lit-item.is
        (value-none c.loop-lit.held.literals c.lit-item.result.var (rw c.var.ensures.var at (sym w.in-None.ensures.value))) (c.loop-lit.invariant.denied Q h);
    extends = Extends-push _ _ _ c.loop-lit.invariant.extends;
    vars = w.push.ensures.vars ∙ c.loop-lit.invariant.vars;
  }
  | in-Some+else-value-positive w ↦
      let value = rw c.var.ensures.var at (sym w.in-Some.ensures.value) in
      let other = λ (one : w.in-Some.value ≡ c.lit-item.result.positive). beq-other _ _ w.if-value-positive.false (one ∙ sym w.positive.ensures) in
      let found = value-other c.loop-lit.held.literals c.lit-item.result w.in-Some.value c.value.ensures.distinct value other in
      rw w.held-is record {
        denied = λ Q h. deny-held c.args.clause.now Q c.loop-lit.held.literals c.loop-lit.lit-index c.lit-item.result c.loop-lit-test.true c.lit-item.is found.0 (c.loop-lit.invariant.denied Q h);
        extends = c.loop-lit.invariant.extends;
        vars = c.loop-lit.invariant.vars;
      }
]

pub returns-clause-both : goal.returns-clause-both
returns-clause-both c = λ Q h.
    sym (signs-none c.args.clause.now Q c.loop-lit.held.literals (deny-whole c.args.clause.now Q _ c.loop-lit.lit-index c.loop-lit-test.false (c.loop-lit.invariant.denied Q h)))

pub returns-clause-negated : goal.returns-clause-negated
returns-clause-negated c = λ Q h _. deny-whole c.args.clause.now Q _ c.loop-lit.lit-index c.loop-lit-test.false (c.loop-lit.invariant.denied Q h)
