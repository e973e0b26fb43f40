use Rattle.theory.specs.Ledger.{IsFit}
use Rattle.pool_tests.proofs.cubes.cube_of.Given as goal

abbrev pub invariant-loop-number : goal.invariant-loop-number
invariant-loop-number l = IsFit l.vars l.cube
