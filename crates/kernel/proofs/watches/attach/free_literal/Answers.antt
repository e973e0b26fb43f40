use Rattle.std.proofs.Common.{◌∙◌, ap, not, Some}
use Rattle.theory.specs.Trails.{literals}
use Rattle.kernel.proofs.Visits.{truth-none, truth-found}
use Rattle.kernel.proofs.WatchChoice.{in-whole, free-is, none-free, taken-more}
use Rattle.kernel.proofs.watches.attach.free_literal.Goals as goal

pub returns-then-is_none-clause-unit : goal.returns-then-is_none-clause-unit
returns-then-is_none-clause-unit c l unit =
    ap (λ x. Some x) (free-is (literals c.args.trail.now.entries) c.args.clause.now l c.lit-item.result unit (in-whole c.args.clause.now c.loop-lit.lit-index c.lit-item.result c.lit-item.is c.loop-lit-test.true)
    (truth-none (literals c.args.trail.now.entries) c.lit-item.result c.truth.result c.truth.ensures.truth (c.is_none.ensures ∙ ap not c.if-is_none.true)))

pub loop-lit-preserved : goal.loop-lit-preserved
loop-lit-preserved c =
    taken-more (literals c.args.trail.now.entries) c.args.clause.now c.loop-lit.lit-index c.lit-item.result c.lit-item.is c.loop-lit-test.true
    (truth-found (literals c.args.trail.now.entries) c.lit-item.result c.truth.result c.truth.ensures.truth (c.is_none.ensures ∙ ap not c.if-is_none.false)) c.loop-lit.invariant

pub returns-clause-unit : goal.returns-clause-unit
returns-clause-unit c l unit = absurd (none-free (literals c.args.trail.now.entries) c.args.clause.now l c.loop-lit.lit-index unit c.loop-lit-test.false c.loop-lit.invariant)
