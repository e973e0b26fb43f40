use Rattle.std.proofs.Common.{◌∙◌, arith, sym}
use Rattle.lrat.proofs.HeldLemmas.{Extends-popped}
use Rattle.lrat.proofs.held.Held.go_back.Goals as goal

pub loop-self-preserved : goal.loop-self-preserved
loop-self-preserved c = record {
  left = λ P long h. Extends-popped P _ _ c.pop.result c.pop.ensures.popped (omega arith) (c.loop-self.invariant.left P long h);
  few = λ h. let same = c.loop-self.invariant.few h in absurd (omega (arith, rw (sym same) at h));
  vars = c.pop.ensures.vars ∙ c.loop-self.invariant.vars;
}
