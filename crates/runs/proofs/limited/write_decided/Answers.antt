use Rattle.strategies.proofs.DecidedTrees.{refuted-says}
use Rattle.runs.proofs.limited.write_decided.Goals as goal

pub write_refutation-requires-clause-says : goal.write_refutation-requires-clause-says
write_refutation-requires-clause-says g c = λ κs bounds. refuted-says (λ row. row) c.args.formula.now c.args.decided.plan c.args.decided.begun c.in-Refuted.nodes c.vars-vars.ensures.within.formula (rw c.in-Refuted.is at c.requires.tree)
