use Rattle.session.specs.Choosing.{HasChoice}
use Rattle.session.proofs.choice.Choice.widen.Given as goal

abbrev pub invariant-loop-index : goal.invariant-loop-index
invariant-loop-index l = HasChoice l.room l.self
