use Rattle.std.proofs.Common.{◌∙◌, sym, Some}
use Rattle.theory.proofs.literals.ClauseWalks.{beq-same, beq-other, IsMet-end, unit_literal-met, step-false, step-free, step-same, ends-satisfied, ends-two}
use Rattle.lrat.proofs.HintLemmas.{hint-open, hint-unit}
use Rattle.lrat.proofs.Values.{value-held, value-false, value-none}
use Rattle.lrat.proofs.hints.status_of.Goals as goal
use Rattle.lrat.proofs.hints.status_of.Goals.{in-Some+else-value-positive, in-None+in-None-free, in-None+in-Some-free+else-not-same}

pub returns-then-value-positive : goal.returns-then-value-positive
returns-then-value-positive c =
    hint-open c.args.held.now.literals c.args.clause.now
    (ends-satisfied c.args.held.now.literals c.args.clause.now c.loop-lit.lit-index c.lit-item.result c.value.ensures.distinct c.lit-item.is c.loop-lit-test.true
    (value-held c.args.held.now.literals c.lit-item.result c.in-Some.value (rw c.var.ensures.var at (sym c.in-Some.ensures.value)) (beq-same _ _ c.if-value-positive.true ∙ c.positive.ensures)))

pub returns-then-not-same : goal.returns-then-not-same
returns-then-not-same c =
    hint-open c.args.held.now.literals c.args.clause.now
    (ends-two c.args.held.now.literals c.args.clause.now c.loop-lit.lit-index c.lit-item.result c.in-Some-free.other c.lit-item.is c.loop-lit-test.true
    (rw c.in-Some-free.is at c.loop-lit.invariant) (value-none c.args.held.now.literals c.lit-item.result.var (rw c.var.ensures.var at (sym c.in-None.ensures.value))) (sym c.same.ensures ∙ c.if-not-same.true))

pub loop-lit-preserved : goal.loop-lit-preserved
loop-lit-preserved c = elim c.match-value.branch [
  | in-Some+else-value-positive w ↦
      rw w.free-is (step-false c.args.held.now.literals c.args.clause.now c.loop-lit.lit-index c.lit-item.result c.loop-lit.free c.lit-item.is c.loop-lit-test.true c.loop-lit.invariant
      (value-false c.args.held.now.literals c.lit-item.result w.in-Some.value (rw c.var.ensures.var at (sym w.in-Some.ensures.value)) (λ one. beq-other _ _ w.if-value-positive.false (one ∙ sym w.positive.ensures))))
  | in-None+in-None-free w ↦
      rw w.free-is (step-free c.args.held.now.literals c.args.clause.now c.loop-lit.lit-index c.lit-item.result c.lit-item.is c.loop-lit-test.true (rw w.in-None-free.is at c.loop-lit.invariant)
      (value-none c.args.held.now.literals c.lit-item.result.var (rw c.var.ensures.var at (sym w.in-None.ensures.value))))
  | in-None+in-Some-free+else-not-same w ↦
      rw w.free-is (step-same c.args.held.now.literals c.args.clause.now c.loop-lit.lit-index c.lit-item.result w.in-Some-free.other c.lit-item.is c.loop-lit-test.true (rw w.in-Some-free.is at c.loop-lit.invariant)
      (sym w.same.ensures ∙ w.if-not-same.false))
]

pub returns-in-Some-free-2 : goal.returns-in-Some-free-2
returns-in-Some-free-2 c =
    hint-unit c.args.held.now.literals c.args.clause.now c.in-Some-free-2.lit
    (unit_literal-met c.args.held.now.literals c.args.clause.now c.in-Some-free-2.lit (IsMet-end c.args.held.now.literals c.args.clause.now c.loop-lit.lit-index (Some c.in-Some-free-2.lit) c.loop-lit-test.false (rw c.in-Some-free-2.is at c.loop-lit.invariant)))
