-- What is known of the formula of a run.
use Rattle.std.specs.Prelude.{◌≡◌, ℕ, Bool, nat_eq, if◌then◌else◌, List, [], ◌∷◌, length}
use Rattle.theory.specs.Literals.{Literal}
use Rattle.theory.specs.Truth.{Formula}
use Rattle.spread.specs.declared.dividing.Progress.{Progress}
use Rattle.spread.specs.declared.dividing.Progress.TheVariants.{Open, Satisfiable, Unsatisfiable}
use Rattle.spread.specs.OpenCubes.{AreLeftOpen}

-- by how many cubes are open, and whether a model cuts off what lies right of them
abbrev pub progress_by : ℕ → Bool → Progress
progress_by count has_model = if nat_eq count 0 then (if has_model then Satisfiable else Unsatisfiable) else Open count

-- it is known by facts: by the cubes that they leave open of the formula's tree
abbrev pub IsKnown : Formula → Progress → Type 0
IsKnown F progress = (left : List (List Literal)) × (has_model : Bool) × AreLeftOpen F ([] ∷ []) left has_model × (progress ≡ progress_by (length left) has_model)
