use Rattle.std.proofs.Common.{◌≡◌, ◌+◌, ◌∙◌, length, map, sym, arith}
use Rattle.std.proofs.lemmas.List.{length-map}
use Rattle.theory.proofs.checker.Soundness.{accepted-unsatisfiable}
use Rattle.lrat_text.specs.Steps.{step_of}
use Rattle.lrat.specs.Tested.{checker_of}
use Rattle.lrat.proofs.CheckLemmas.{check-leaves, check-faulty, check-ends, refused-at, map-next}
use Rattle.lrat.proofs.checker.check.Goals as goal

pub returns-in-Ok-Some-clause-checked : goal.returns-in-Ok-Some-clause-checked
returns-in-Ok-Some-clause-checked c =
    let inv = c.loop-index.invariant in
    let fault = rw (c.in-Ok-Some.field-0-is, inv.ready.vars) at c.in-Ok-Some.ensures.tested in
    let steps = map-next step_of c.args.steps.now c.loop-index.index c.index-steps-index.result c.loop-index-test.true c.index-steps-index.is in
    rw c.at.ensures (refused-at c.args.formula.now (map step_of c.args.steps.now) _ (c.loop-index.index + 1) (sym inv.left ∙ check-faulty c.args.formula.now.vars (c.loop-index.index + 1) (checker_of c.loop-index.checker) _ _ _ _ steps fault))

pub loop-index-preserved : goal.loop-index-preserved
loop-index-preserved c =
    let inv = c.loop-index.invariant in
    let left = rw (c.in-Ok-None.field-0-is, inv.ready.vars) at c.in-Ok-None.ensures.tested in
    let steps = map-next step_of c.args.steps.now c.loop-index.index c.index-steps-index.result c.loop-index-test.true c.index-steps-index.is in
    record {
      left = sym (check-leaves c.args.formula.now.vars (c.loop-index.index + 1) (checker_of c.loop-index.checker) (checker_of c.test.new.self) _ _ _ steps left.0) ∙ inv.left;
      ready = left.1;
    }

pub returns-then-is_refutation-clause-sound : goal.returns-then-is_refutation-clause-sound
returns-then-is_refutation-clause-sound c =
    let steps = map step_of c.args.steps.now in
    let long : length steps ≡ length c.args.steps.now = length-map c.args.steps.now step_of in
    accepted-unsatisfiable c.args.formula.now steps
    (sym c.loop-index.invariant.left ∙ check-ends c.args.formula.now.vars (c.loop-index.index + 1) (checker_of c.loop-index.checker) steps c.loop-index.index (omega arith) (sym c.is_refutation.ensures ∙ c.if-is_refutation.true))
