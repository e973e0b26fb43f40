use Rattle.session.specs.Choosing.{HasChoice}
use Rattle.session.proofs.choice.Choice.best.Given as goal

abbrev pub invariant-loop : goal.invariant-loop
invariant-loop l = HasChoice l.kernel.vars l.self
