use Rattle.simplify.proofs.RenewedCandidates.{renewed-none, renewed-next}
use Rattle.simplify.proofs.trial.renew.Goals as goal

pub loop-variable-init : goal.loop-variable-init
loop-variable-init c = renewed-none c.args.database.now.vars c.args.database.now.entries c.args.candidates.now c.requires.long.0 c.requires.long.1

pub loop-variable-preserved : goal.loop-variable-preserved
loop-variable-preserved c = rw (c.set_weight.ensures, c.wait.ensures, c.weight.ensures)
    (renewed-next c.args.database.now.vars c.args.database.now.entries c.args.variables.now c.loop-variable.variable-index c.args.candidates.now c.loop-variable.candidates c.loop-variable-test.true
    (c.requires.within c.loop-variable.variable-index 0 c.loop-variable-test.true) c.loop-variable.invariant)
