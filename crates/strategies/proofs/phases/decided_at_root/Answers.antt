use Rattle.std.proofs.Common.{refl}
use Rattle.strategies.proofs.FirstSearches.{root-model, root-refuted}
use Rattle.strategies.proofs.phases.decided_at_root.Goals as goal

pub returns-in-Model : goal.returns-in-Model
returns-in-Model g c = record {
  plan_is = refl;
  tree = root-model c.args.formula.now c.args.plan c.in-Model.values.items c.vars-vars.ensures.within.formula c.requires.begun (rw c.in-Model.is at c.requires.runs);
}

pub returns-in_ok-push-in-Refuted : goal.returns-in_ok-push-in-Refuted
returns-in_ok-push-in-Refuted g c = record {
  plan_is = refl;
  tree = root-refuted g.L.KeepsLines.lines c.args.formula.now c.args.plan c.in-Refuted.lines c.push.new.self c.requires.begun (rw c.in-Refuted.is at c.requires.runs)
      (rw (c.in_ok-push-in-Refuted.ensures.items, c.new-nodes.ensures.items) refl);
}
