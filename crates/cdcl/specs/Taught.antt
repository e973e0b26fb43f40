-- What another crate sees of the analysis of conflicts.
use Rattle.std.specs.Prelude.{ℕ, Bool, List}
use Rattle.theory.specs.Literals.{Clause}

-- for how many variables there is room, whether memory was refused, and what the last conflict has
-- taught: a clause, the level to go back to, and the variables seen
pub record Taught : Type 0 where
  pub vars : ℕ
  pub out_of_memory : Bool
  pub clause : Clause
  pub level : ℕ
  pub seen : List ℕ
