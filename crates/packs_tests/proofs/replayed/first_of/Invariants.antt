use Rattle.std.proofs.Common.{◌≡◌}
use Rattle.packs_tests.proofs.replayed.first_of.Given as goal

-- the replayer stays one over the formula's variables
abbrev pub invariant-loop-case : goal.invariant-loop-case
invariant-loop-case l = l.replayer.vars ≡ l.formula.vars
