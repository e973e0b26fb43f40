use Rattle.std.proofs.Common.{◌∙◌, sym}
use Rattle.theory.specs.Trails.{literals}
use Rattle.theory.proofs.literals.ClauseWalks.{at-place}
use Rattle.theory.proofs.literals.TrueClauses.{AreTrue-has, has-true}
use Rattle.session.proofs.renewing.is_satisfied.Goals as goal

pub returns-then-is_true : goal.returns-then-is_true
returns-then-is_true c is m t =
    has-true m c.args.clause.now c.lit-item.result (at-place c.args.clause.now c.loop-lit.lit-index c.lit-item.result c.lit-item.is c.loop-lit-test.true)
    (AreTrue-has m (literals c.args.kernel.now.trail) c.lit-item.result t (sym c.is_true.ensures ∙ c.if-is_true.true))
