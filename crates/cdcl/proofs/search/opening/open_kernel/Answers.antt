use Rattle.std.proofs.Common.{◌≡◌, ◌≤◌, ◌++◌, List, [], length, false, refl, sym, subst}
use Rattle.std.proofs.Math.Seq.{take-length}
use Rattle.theory.specs.Literals.{Literal}
use Rattle.theory.specs.Truth.{Formula}
use Rattle.theory.specs.Pure.{unit_clauses}
use Rattle.theory.specs.Reading.{large, max_vars}
use Rattle.kernel.specs.State.{State}
use Rattle.kernel.specs.declared.order.Order.{Order}
use Rattle.cdcl.specs.Searching.{IsReady}
use Rattle.cdcl.proofs.search.opening.open_kernel.Goals as goal

IsReady-opened : (order : Order) (F : Formula) (units : List Literal) (k : State) → k ≡ record {
  vars = F.vars;
  order = order;
  first = length (F.clauses ++ unit_clauses units);
  clauses = F.clauses ++ unit_clauses units;
  trail = [];
  out_of_memory = false;
} → k.vars ≤ max_vars large → IsReady order (record F { clauses = F.clauses ++ unit_clauses units }) k
IsReady-opened order F units k opened few = subst (IsReady order (record F { clauses = F.clauses ++ unit_clauses units })) (sym opened) (record {
  has_memory = refl;
  in_order = refl;
  vars = refl;
  few = rw opened at few;
  first = refl;
  clauses = take-length (F.clauses ++ unit_clauses units);
})

pub returns-clause-ready : goal.returns-clause-ready
returns-clause-ready c =
    let opened = rw c.root-root.ensures at c.in_ok-kernel.ensures.opened in
    IsReady-opened c.args.order c.args.formula.now c.args.units.now _ opened c.in_ok-kernel.ensures.few
