use Rattle.std.proofs.Common.{◌∙◌, refl, sym}
use Rattle.session.proofs.AskedLemmas.{IsAsked-with, IsAssumed-next}
use Rattle.session.proofs.search.Search.next_assumption.Goals as goal

pub loop-self-preserved : goal.loop-self-preserved
loop-self-preserved c =
    let s = c.loop-self.self in
    let h = c.loop-self.invariant.asked in
    record {
      asked = IsAsked-with c.args.formula.now c.args.assumptions.now s _ h refl refl refl h.fit.choice refl
          (IsAssumed-next s.kernel.clauses s.kernel.trail c.args.assumptions.now s.assumed s.base c.index-assumptions-self.result h.lawful c.loop-self-test.true c.index-assumptions-self.is (sym c.is_true.ensures ∙ c.if-not-is_true.false)
          h.assumed);
      kernel = c.loop-self.invariant.kernel;
    }
