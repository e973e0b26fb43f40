-- What is kept of the kernel that looks at splits.
use Rattle.std.specs.Prelude.{◌≡◌, take, false}
use Rattle.theory.specs.Truth.{Formula}
use Rattle.theory.specs.Pure.{first_clauses}
use Rattle.kernel.specs.declared.order.Order.TheVariants.{ByNumber}
use Rattle.packs.specs.declared.replay.splits.LeastSplits.{LeastSplits}

-- it may go over to a cube of the formula, unless it has met want of memory
pub record IsReady (F : Formula) (s : LeastSplits) : Type 0 where
  pub vars : s.kernel.vars ≡ F.vars
  pub in_order : s.kernel.order ≡ ByNumber
  pub clauses : s.kernel.out_of_memory ≡ false → take s.kernel.first s.kernel.clauses ≡ first_clauses F
