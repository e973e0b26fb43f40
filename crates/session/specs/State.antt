-- What a session is seen as.
use Rattle.std.specs.Prelude.{ℕ, Bool}
use Rattle.theory.specs.Truth.{Formula}

-- the clauses added so far, over the variables of these and of all assumptions; how many steps were
-- made in all questions; and whether memory was refused
pub record State : Type 0 where
  pub formula : Formula
  pub steps : ℕ
  pub out_of_memory : Bool
