-- Where the outcomes of cubes come from.
use Rattle.std.specs.Prelude.{List, IfSome}
use Rattle.theory.specs.Truth.{Formula}
use Rattle.theory.specs.Plans.{Plan}
use Rattle.theory.specs.Learning.{Line}
use Rattle.cubes.specs.Division.{IsSolverOf, IsRootOf}
use Rattle.cubes.specs.Known.{AreCheckedOutcomes}
use Rattle.cubes.specs.declared.results.LazySolver.{LazySolver}
use Rattle.cubes.specs.declared.results.Source.{Source}

-- the solver, if there is one yet, is the formula's, by the plan, and what it is told is true
abbrev pub IsLazySolver : Formula → Plan → LazySolver → Type 0
IsLazySolver F plan s = IfSome s.solver (IsSolverOf F plan) × IsRootOf F plan s.root

-- what is known is checked, and the solver is the formula's, by the plan
abbrev pub IsSource : {L : Type 0} → (L → List Line) → Formula → Plan → Source L → Type 0
IsSource lines F plan s = AreCheckedOutcomes lines plan.search F s.known × IsLazySolver F plan s.solver
