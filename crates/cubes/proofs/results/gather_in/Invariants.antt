use Rattle.std.proofs.Common.{◌+◌}
use Rattle.theory.specs.Beginnings.{begun_by}
use Rattle.cubes.specs.Known.{AreOutcomes}
use Rattle.cubes.specs.Solved.{AreTrueBy}
use Rattle.cubes.specs.Source.{IsSource}
use Rattle.cubes.proofs.GatheringLemmas.{IsGathered}
use Rattle.cubes.proofs.Walks.{by_plan, by_checks, to_come}
use Rattle.cubes.proofs.results.gather_in.Given as goal

-- what is known is checked, and the cube is reached, with the nodes before it; and by the plan where
-- the results are true
abbrev pub invariant-cubes : goal.invariant-cubes
invariant-cubes g l = record {
  source : IsSource g.L.KeepsLines.lines (begun_by l.plan.search l.formula) l.plan l.source;
  reached : IsGathered g.L.KeepsLines.lines (begun_by l.plan.search l.formula) (by_checks (begun_by l.plan.search l.formula) l.plan.search) l.gathering;
  known_true : AreTrueBy g.L.KeepsLines.lines (begun_by l.plan.search l.formula) l.plan l.fn.results.items → AreOutcomes g.L.KeepsLines.lines (begun_by l.plan.search l.formula) l.plan l.source.known;
  reached_true : AreTrueBy g.L.KeepsLines.lines (begun_by l.plan.search l.formula) l.plan l.fn.results.items → IsGathered g.L.KeepsLines.lines (begun_by l.plan.search l.formula) (by_plan (begun_by l.plan.search l.formula) l.plan) l.gathering;
}

abbrev pub decreases-cubes : goal.decreases-cubes
decreases-cubes g l = to_come (l.formula.vars + 1) l.gathering.at.walk
