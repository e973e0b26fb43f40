-- Solving cubes of a formula by a plan's search.
use Rattle.std.specs.Prelude.{◌≡◌, Bool}
use Rattle.theory.specs.Truth.{Formula}
use Rattle.theory.specs.Plans.{ordered, focused, Plan}
use Rattle.kernel.specs.declared.order.Order.TheVariants.{ByNumber, ByPlace}
use Rattle.cdcl.specs.declared.search.searcher.Searcher.{Searcher}
use Rattle.cdcl.specs.declared.search.searcher.Searcher.TheVariants.{Ordered, Focused}
use Rattle.cdcl.specs.Searching.{IsReady}
use Rattle.cdcl.specs.Focusing.{IsEquipped}

-- what a solver is seen as: which formula it solves cubes of, as its search begins with it, by which
-- plan, and whether it has met want of memory
pub record Solving : Type 0 where
  pub formula : Formula
  pub plan : Plan
  pub out_of_memory : Bool

-- the search is the plan's, and may go over to a cube of the formula
abbrev pub IsReadyBy : Plan → Formula → Searcher → Type 0
IsReadyBy plan F (Ordered s) = (plan.search ≡ ordered) × IsReady ByNumber F s.kernel
IsReadyBy plan F (Focused s) = (plan.search ≡ focused s.constants) × IsReady ByPlace F s.kernel × IsEquipped s
