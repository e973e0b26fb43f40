use Rattle.std.proofs.Common.{◌≡◌, List, length}
use Rattle.theory.specs.Literals.{Literal}
use Rattle.cubes.specs.CubeWalks.{IsBelow}
use Rattle.cubes.specs.Traversal.{behind}
use Rattle.cubes.proofs.cube_walk.CubeWalk.go_on.Given as goal

-- the same place follows, and the cube is that of the place
abbrev pub invariant-above : goal.invariant-above
invariant-above l = record {
  next : behind tt l.self.walk ≡ behind tt l.initial.self.walk;
  below : (H : List Literal) → IsBelow H l.initial.self → IsBelow H l.self;
}

abbrev pub decreases-above : goal.decreases-above
decreases-above l = length l.self.walk
