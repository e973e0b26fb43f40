use Rattle.theory.specs.Plans.{ordered}
use Rattle.theory.specs.Pure.{searched}
use Rattle.cubes.specs.Solved.{AreCheckedResults}
use Rattle.cubes_tests.proofs.checked.gathered.Given as goal

abbrev pub invariant-loop-numbers : goal.invariant-loop-numbers
invariant-loop-numbers l = AreCheckedResults ordered (searched l.formula) l.results.items
