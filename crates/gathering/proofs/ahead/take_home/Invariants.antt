use Rattle.std.proofs.Common.{All, length}
use Rattle.theory.specs.Truth.{Formula}
use Rattle.theory.specs.Plans.{Plan}
use Rattle.theory.specs.Beginnings.{begun_by}
use Rattle.cubes.specs.Solved.{AreTrueResults}
use Rattle.gathering.specs.Ahead.{IsHome, IsOwnHome, AreReady}
use Rattle.gathering.proofs.ahead.take_home.Given as goal

-- those that are left are as they were, and so are the others, which were taken
abbrev pub invariant-homes : goal.invariant-homes
invariant-homes l = record {
  checked : (F : Formula) (plan : Plan) → All (IsHome F plan) l.fn.homes.items → AreReady F plan l.fn.checkers.items l.fn.ahead.items → All (IsHome F plan) l.homes.items × AreReady F plan l.checkers.items l.ahead.items;
  own : (F : Formula) (plan : Plan) → All (IsOwnHome F plan) l.fn.homes.items → AreTrueResults (begun_by plan.search F) plan l.fn.ahead.items → All (IsOwnHome F plan) l.homes.items × AreTrueResults (begun_by plan.search F) plan l.ahead.items;
}

abbrev pub decreases-homes : goal.decreases-homes
decreases-homes l = length l.homes.items
