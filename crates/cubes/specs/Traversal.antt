-- The traversal of a tree of splits. A place is the list of the splits on the way to it, of which
-- the last stands first.
use Rattle.std.specs.Prelude.{◌≡◌, ℕ, List, [], ◌∷◌, ◌++◌, Option, Some, None}
use Rattle.theory.specs.Literals.{Literal, positive, negative}
use Rattle.cubes.specs.declared.traversal.Split.{Split}
use Rattle.cubes.specs.declared.traversal.Turn.{Turn}
use Rattle.cubes.specs.declared.traversal.Turn.TheVariants.{Right, Both, End}

-- where the traversal comes to from a place that is done
abbrev pub Turns : {T : Type 0} → List (Split T) → T → Turn T → List (Split T) → Type 0
Turns {T} old done (Right x) new = (above : List (Split T)) × (old ≡ record { var = x; left = None } ∷ above) × (new ≡ record { var = x; left = Some done } ∷ above)
Turns old done (Both x left right) new = (old ≡ record { var = x; left = Some left } ∷ new) × (right ≡ done)
Turns old done (End value) new = (old ≡ []) × (new ≡ []) × (value ≡ done)

-- the half of a split that the way goes on in
abbrev pub half : {T : Type 0} → ℕ → Option T → Literal
half x None = negative x
half x (Some left) = positive x

-- the halves on the way
abbrev pub path : {T : Type 0} → List (Split T) → List Literal
path [] = []
path (s ∷ above) = path above ++ half s.var s.left ∷ []

-- the place that follows one that is done, where each half comes to this value: the right half of
-- the last split in whose left half it lies
abbrev pub beside : {T : Type 0} → T → ℕ → Option T → List (Split T) → Option (List (Split T)) → Option (List (Split T))
beside done x None above up = Some (record { var = x; left = Some done } ∷ above)
beside done x (Some left) above up = up

abbrev pub behind : {T : Type 0} → T → List (Split T) → Option (List (Split T))
behind done [] = None
behind done (s ∷ above) = beside done s.var s.left above (behind done above)
