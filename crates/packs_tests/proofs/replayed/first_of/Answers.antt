use Rattle.theory.proofs.searching.PureVariables.{IsOver-pure_literals, length-pure_literals}
use Rattle.packs_tests.proofs.replayed.first_of.Goals as goal

pub open-requires-clause-over : goal.open-requires-clause-over
open-requires-clause-over c = rw c.in_ok-units.ensures (IsOver-pure_literals c.args.formula.now)

pub open-requires-clause-few : goal.open-requires-clause-few
open-requires-clause-few c = rw c.in_ok-units.ensures (length-pure_literals c.args.formula.now)
