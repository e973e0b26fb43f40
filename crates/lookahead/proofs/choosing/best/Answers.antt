use Rattle.std.proofs.Common.{◌∙◌, sym, subst}
use Rattle.theory.specs.Looking.{Choice, no_choice, Chooses}
use Rattle.lookahead.proofs.LookLemmas.{fails-at, tries-at, chosen-at}
use Rattle.lookahead.proofs.choosing.best.Goals as goal

pub returns-in-None-clause-chooses : goal.returns-in-None-clause-chooses
returns-in-None-clause-chooses c =
    let k = c.args.kernel.now in
    c.loop-var.invariant.leads _ (fails-at k.clauses k.trail c.loop-var.choice c.args.candidates.now c.loop-var.var-index c.loop-var-test.true (rw (c.in-None.is, c.loop-var.invariant.kept) at c.in_ok-worth.ensures.worth))

pub loop-var-preserved : goal.loop-var-preserved
loop-var-preserved c = record {
  kept = c.in_ok-worth.ensures.kept ∙ c.loop-var.invariant.kept;
  leads = λ x more.
      let k = c.args.kernel.now in
      c.loop-var.invariant.leads x (tries-at k.clauses k.trail c.loop-var.choice c.args.candidates.now c.loop-var.var-index c.in-Some.worth x c.loop-var-test.true
      (rw (c.in-Some.is, c.loop-var.invariant.kept) at c.in_ok-worth.ensures.worth) (rw c.better-choice.ensures at more));
}

pub returns-clause-chooses : goal.returns-clause-chooses
returns-clause-chooses c =
    let k = c.args.kernel.now in
    subst (λ (x : Choice). Chooses k.clauses k.trail no_choice c.args.candidates.now x.var) (sym c.choice.view_is)
    (c.loop-var.invariant.leads _ (chosen-at k.clauses k.trail c.loop-var.choice c.args.candidates.now c.loop-var.var-index c.loop-var-test.false))
