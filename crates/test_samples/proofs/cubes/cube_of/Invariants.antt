use Rattle.theory.specs.Truth.{IsOver}
use Rattle.test_samples.proofs.cubes.cube_of.Given as goal

abbrev pub invariant-loop-number : goal.invariant-loop-number
invariant-loop-number l = IsOver l.vars l.cube
