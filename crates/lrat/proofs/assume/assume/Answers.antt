use Rattle.std.proofs.Common.{◌≡◌, sym, ◌∙◌}
use Rattle.theory.proofs.literals.ClauseWalks.{beq-same, beq-other, at-place, has-before}
use Rattle.lrat.proofs.Values.{value-none, value-held, value-other}
use Rattle.lrat.proofs.Assumptions.{IsAssumed-pivot, IsAssumed-push, IsAssumed-held, closed-by_held, not_closed, next, whole}
use Rattle.lrat.proofs.HeldLemmas.{Extends-push}
use Rattle.lrat.proofs.assume.assume.Goals as goal
use Rattle.lrat.proofs.assume.assume.Goals.{then-var+else-not-same, else-var+in-None+in_ok-push-in-None, else-var+in-Some+else-value-positive}

pub push-requires-clause-is_free : goal.push-requires-clause-is_free
push-requires-clause-is_free c = rw c.negated.ensures (value-none c.loop-lit.held.literals c.lit-item.result.var (rw c.var-else-var.ensures.var at (sym c.in-None.ensures.value)))

pub returns-then-value-positive-clause-closed : goal.returns-then-value-positive-clause-closed
returns-then-value-positive-clause-closed c =
    let there = at-place c.args.clause.now c.loop-lit.lit-index c.lit-item.result c.lit-item.is c.loop-lit-test.true in
    let value = rw c.var-else-var.ensures.var at (sym c.in-Some.ensures.value) in
    sym (closed-by_held c.args.held.now.literals c.args.pivot c.args.clause.now _ c.loop-lit.held.literals c.lit-item.result (has-before c.args.clause.now c.loop-lit.lit-index) c.loop-lit.invariant.assumed there
    (λ e. c.if-var.false (c.var.ensures.var ∙ (e ∙ sym c.var-in-loop-lit.ensures.var)))
    (value-held c.loop-lit.held.literals c.lit-item.result c.in-Some.value value (beq-same _ _ c.if-value-positive.true ∙ c.positive.ensures)))

pub loop-lit-preserved : goal.loop-lit-preserved
loop-lit-preserved c =
    let P = c.args.held.now.literals in
    elim c.if-var.branch [
      | then-var+else-not-same w ↦ rw w.held-is record {
        assumed = next P c.args.pivot c.args.clause.now c.loop-lit.held.literals c.loop-lit.lit-index c.lit-item.result c.loop-lit-test.true c.lit-item.is
            (IsAssumed-pivot P c.args.pivot _ _ c.lit-item.result (sym w.same.ensures ∙ w.if-not-same.false) c.loop-lit.invariant.assumed);
        extends = c.loop-lit.invariant.extends;
        vars = c.loop-lit.invariant.vars;
      }
      | else-var+in-None+in_ok-push-in-None w ↦ rw (w.held-is, w.in_ok-push-in-None.ensures.ok, w.negated.ensures) record {
        assumed = next P c.args.pivot c.args.clause.now _ c.loop-lit.lit-index c.lit-item.result c.loop-lit-test.true c.lit-item.is
            (IsAssumed-push P c.args.pivot _ _ c.lit-item.result (λ e. w.if-var.false (c.var.ensures.var ∙ (e ∙ sym c.var-in-loop-lit.ensures.var)))
            (value-none c.loop-lit.held.literals c.lit-item.result.var (rw w.var-else-var.ensures.var at (sym w.in-None.ensures.value))) c.loop-lit.invariant.assumed);
        extends = Extends-push _ _ _ c.loop-lit.invariant.extends;
        vars = w.push.ensures.vars ∙ c.loop-lit.invariant.vars;
      }
      | else-var+in-Some+else-value-positive w ↦
          let value = rw w.var-else-var.ensures.var at (sym w.in-Some.ensures.value) in
          let other = λ (one : w.in-Some.value ≡ c.lit-item.result.positive). beq-other _ _ w.if-value-positive.false (one ∙ sym w.positive.ensures) in
          let found = value-other c.loop-lit.held.literals c.lit-item.result w.in-Some.value w.value.ensures.distinct value other in
          rw w.held-is record {
            assumed = next P c.args.pivot c.args.clause.now _ c.loop-lit.lit-index c.lit-item.result c.loop-lit-test.true c.lit-item.is
                (IsAssumed-held P c.args.pivot _ _ c.lit-item.result (λ e. w.if-var.false (c.var.ensures.var ∙ (e ∙ sym c.var-in-loop-lit.ensures.var))) found.0 found.1 c.loop-lit.invariant.assumed);
            extends = c.loop-lit.invariant.extends;
            vars = c.loop-lit.invariant.vars;
          }
    ]

pub returns-clause-closed : goal.returns-clause-closed
returns-clause-closed c = sym (not_closed _ _ _ _ (whole _ _ c.args.clause.now _ c.loop-lit.lit-index c.loop-lit-test.false c.loop-lit.invariant.assumed))
