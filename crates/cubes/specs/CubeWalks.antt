-- The traversal of a tree of cubes.
use Rattle.std.specs.Prelude.{◌≡◌, ℕ, Bool, true, false, List, ◌∷◌, ◌++◌, Some, None}
use Rattle.theory.specs.Literals.{Literal}
use Rattle.theory.specs.Trees.{false_half}
use Rattle.cubes.specs.declared.cube_walk.CubeWalk.{CubeWalk}
use Rattle.cubes.specs.Traversal.{path, behind}

-- the cube is that of the place, below the cube H
abbrev pub IsBelow : List Literal → CubeWalk → Type 0
IsBelow H w = w.cube ≡ H ++ path w.walk

-- the left half of the cube was entered
pub record Enters (x : ℕ) (old new : CubeWalk) : Type 0 where
  pub walk : new.walk ≡ record { var = x; left = None } ∷ old.walk
  pub cube : new.cube ≡ false_half old.cube x

-- the next cube to the right, or none
abbrev pub GoesOn : CubeWalk → Bool → CubeWalk → Type 0
GoesOn old true new = (behind tt old.walk ≡ Some new.walk) × ((H : List Literal) → IsBelow H old → IsBelow H new)
GoesOn old false new = behind tt old.walk ≡ None
