use Rattle.std.proofs.Common.{◌≡◌}
use Rattle.heuristics.specs.Rankings.{vars_of}
use Rattle.session.proofs.choice.Choice.open.Given as goal

abbrev pub invariant-loop-index : goal.invariant-loop-index
invariant-loop-index l = vars_of l.scores ≡ l.room
