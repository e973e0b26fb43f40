use Rattle.std.proofs.Common.{◌+◌}
use Rattle.theory.specs.Beginnings.{begun_by}
use Rattle.cubes.specs.Gathering.{nodes_of}
use Rattle.cubes.proofs.GatheringLemmas.{IsGathered}
use Rattle.cubes.proofs.Walks.{by_plan, by_checks, to_come}
use Rattle.cubes.proofs.streaming.go_through.Given as goal

-- the cube is reached, and the nodes before it are taken; and by the plan where the outcomes are
abbrev pub invariant-cubes : goal.invariant-cubes
invariant-cubes g l = record {
  gives : g.S.GivesOutcomes.gives l.source l.formula l.plan;
  is_for : g.T.TakesNodes.is_for l.taker l.plan.search l.formula;
  reached : IsGathered (λ lines. lines) (begun_by l.plan.search l.formula) (by_checks (begun_by l.plan.search l.formula) l.plan.search) l.gathering;
  gives_own : g.S.GivesOutcomes.gives_own l.fn.source l.formula l.plan → g.S.GivesOutcomes.gives_own l.source l.formula l.plan;
  reached_own : g.S.GivesOutcomes.gives_own l.fn.source l.formula l.plan → IsGathered (λ lines. lines) (begun_by l.plan.search l.formula) (by_plan (begun_by l.plan.search l.formula) l.plan) l.gathering;
  taken : g.T.TakesNodes.takes l.fn.taker l.fn.out (nodes_of (λ lines. lines) l.gathering) l.taker l.out;
}

abbrev pub decreases-cubes : goal.decreases-cubes
decreases-cubes g l = to_come (l.formula.vars + 1) l.gathering.at.walk
