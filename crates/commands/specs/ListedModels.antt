-- What `models` prints of a formula, and its status.
use Rattle.std.specs.Prelude.{◌≡◌, ℕ, Bool, false, List, All, Option, nat_eq, if◌then◌else◌}
use Rattle.theory.specs.Literals.{IsVariable}
use Rattle.theory.specs.Truth.{Formula}
use Rattle.theory.specs.Trails.{variables}
use Rattle.models.specs.State.{State}
use Rattle.models.specs.Written.{IsWritten}
use Rattle.models.specs.declared.output.Listing.{Listing}
use Rattle.models.specs.declared.output.ModelCount.{ModelCount}

-- variables of the formula: all of them, unless some are asked for
pub record IsProjection (V : ℕ) (is_asked : Bool) (P : List ℕ) : Type 0 where
  pub over : All (IsVariable V) P
  pub all : is_asked ≡ false → P ≡ variables V

-- the formula's models were printed, up to the limit
pub record IsListed (F : Formula) (is_asked : Bool) (limit : ℕ) (shown : Listing) (a b : Option (List ℕ)) (found : ModelCount) : Type 0 where
  pub start : State
  pub clauses : start.clauses ≡ F.clauses
  pub projection : IsProjection F.vars is_asked start.projection
  pub steps : ℕ
  pub written : IsWritten start steps limit shown a b found

-- 10 with a model, 20 where there is none, 0 where that isn't known
abbrev pub count_status : ModelCount → ℕ
count_status found = if nat_eq found.count 0 then (if found.is_whole then 20 else 0) else 10
