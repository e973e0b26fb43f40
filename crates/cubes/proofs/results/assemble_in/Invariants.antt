use Rattle.std.proofs.Common.{suc, length, sum_by}
use Rattle.theory.specs.Truth.{Formula}
use Rattle.theory.specs.Plans.{Plan}
use Rattle.theory.specs.Results.{IsWhole}
use Rattle.cubes.specs.Solved.{results_by}
use Rattle.cubes.proofs.GatheringLemmas.{IsGathered}
use Rattle.cubes.proofs.Walks.{by_plan, to_come}
use Rattle.cubes.proofs.WholeWalks.{AreStillThere}
use Rattle.cubes.proofs.results.assemble_in.Given as goal

-- for whatever formula and plan the results are whole, the cube is reached, with the nodes before
-- it; and what is needed from here on is still there
abbrev pub invariant-cubes : goal.invariant-cubes
invariant-cubes g l = record {
  reached : (F : Formula) (plan : Plan) → IsWhole F plan (results_by g.L.KeepsLines.lines l.fn.results.items) → IsGathered g.L.KeepsLines.lines F (by_plan F plan) l.gathering;
  still : AreStillThere l.initial.known l.known l.gathering;
}

abbrev pub decreases-cubes : goal.decreases-cubes
decreases-cubes g l = to_come (suc (sum_by (λ r. length r.cube) (results_by g.L.KeepsLines.lines l.fn.results.items))) l.gathering.at.walk
