-- What a kernel is seen as.
use Rattle.std.specs.Prelude.{ℕ, Bool, List}
use Rattle.theory.specs.Literals.{Clause}
use Rattle.theory.specs.Trails.{Trail}
use Rattle.kernel.specs.declared.order.Order.{Order}

-- the number of variables, the order in which propagation takes unit clauses, how many of the
-- clauses are the formula's, the clauses in the order of their numbers, the trail, and whether the
-- kernel has met want of memory
pub record State : Type 0 where
  pub vars : ℕ
  pub order : Order
  pub first : ℕ
  pub clauses : List Clause
  pub trail : Trail
  pub out_of_memory : Bool
