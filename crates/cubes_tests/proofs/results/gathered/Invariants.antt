use Rattle.theory.specs.Plans.{ordered_within}
use Rattle.theory.specs.Pure.{searched}
use Rattle.cubes.specs.Solved.{AreTrueResults}
use Rattle.cubes_tests.proofs.results.gathered.Given as goal

abbrev pub invariant-loop-row : goal.invariant-loop-row
invariant-loop-row l = AreTrueResults (searched l.formula) (ordered_within 1) l.results.items
