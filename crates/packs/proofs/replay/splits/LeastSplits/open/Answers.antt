use Rattle.theory.proofs.searching.PureVariables.{IsCube-pure_literals, IsOver-pure_literals}
use Rattle.packs.proofs.replay.splits.LeastSplits.open.Goals as goal

pub open-requires-clause-units : goal.open-requires-clause-units
open-requires-clause-units c = rw (c.deref.ensures.value, c.in_ok-units.ensures) (IsCube-pure_literals c.args.formula.now, IsOver-pure_literals c.args.formula.now)
