use Rattle.std.proofs.Common.{◌∙◌, refl}
use Rattle.cdcl.specs.Numbers.{is_one_of}
use Rattle.cdcl.proofs.ReasonVariables.{seen-no_literal, seen-next}
use Rattle.cdcl.proofs.analysis.reasons.see_reasons.Goals as goal

pub loop-lit-init : goal.loop-lit-init
loop-lit-init c = record {
  bound = refl;
  seen = λ v. seen-no_literal c.args.kernel.now.clauses c.args.kernel.now.trail (is_one_of c.args.seen.now.numbers v) v;
}

pub loop-lit-preserved : goal.loop-lit-preserved
loop-lit-preserved c = record {
  bound = c.see_reason.ensures.bound ∙ c.loop-lit.invariant.bound;
  seen = λ v. seen-next c.args.kernel.now.clauses c.args.kernel.now.trail c.args.clause.now c.loop-lit.lit-index c.lit-item.result v _ _ _ c.loop-lit-test.true c.lit-item.is (c.loop-lit.invariant.seen v) (c.in_ok-see_reason.ensures.seen v);
}
