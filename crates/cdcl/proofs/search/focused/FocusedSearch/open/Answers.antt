use Rattle.std.proofs.Common.{sym, subst, arith}
use Rattle.theory.specs.Truth.{Formula}
use Rattle.kernel.specs.declared.order.Order.TheVariants.{ByPlace}
use Rattle.cdcl.specs.Searching.{IsReady}
use Rattle.cdcl.proofs.search.focused.FocusedSearch.open.Goals as goal

pub open_kernel-requires : goal.open_kernel-requires
open_kernel-requires c = rw c.deref.ensures.value c.in_ok-units.ensures.cube

pub open-requires : goal.open-requires
open-requires c = let few = c.in_ok-kernel.ensures.ready.few in let vars = c.in_ok-kernel.ensures.ready.vars in omega (arith, few, vars)

pub returns-clause-ready : goal.returns-clause-ready
returns-clause-ready c = subst (λ (G : Formula). IsReady ByPlace G c.in_ok-kernel.kernel) (sym c.in_ok-units.ensures.begun) (rw c.deref.ensures.value at c.in_ok-kernel.ensures.ready)
