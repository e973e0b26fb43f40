use Rattle.std.proofs.Common.{refl}
use Rattle.theory.specs.Propagation.{by_number, Propagates, quiet, conflict}
use Rattle.theory.proofs.trails.LawfulTrails.{Propagates-conflict}
use Rattle.kernel.specs.declared.order.Order.TheVariants.{ByNumber}
use Rattle.cdcl.proofs.SearchingLemmas.{IsSearching-Propagates, IsSearchStep-from}
use Rattle.theory.proofs.searching.PropagationLemmas.{Propagates-rests}
use Rattle.cdcl.proofs.search.ordered.OrderedSearch.step.Goals as goal

came_to_rest : (c : goal.After-on_quiet-arg-1) → Propagates by_number c.args.self.now.kernel.clauses c.args.self.now.kernel.trail quiet c.close.new.self.trail
came_to_rest c = rw (c.in-Quiet.is, c.requires.searching.in_order) at c.in_ok-close.ensures.ok

pub on_quiet-requires-clause-searching : goal.on_quiet-requires-clause-searching
on_quiet-requires-clause-searching c =
    IsSearching-Propagates ByNumber c.args.self.now.kernel c.close.new.self quiet c.requires.searching c.close.ensures.kept.0 c.close.ensures.kept.1 c.close.ensures.kept.2 c.close.ensures.kept.3 c.in_ok-close.ensures.has_memory (came_to_rest c)

pub on_quiet-requires-clause-quiet : goal.on_quiet-requires-clause-quiet
on_quiet-requires-clause-quiet c = rw c.close.ensures.kept.1 (Propagates-rests _ _ _ _ (came_to_rest c))

met : (c : goal.After-on_conflict-arg-1) → Propagates by_number c.args.self.now.kernel.clauses c.args.self.now.kernel.trail (conflict c.in-Conflict.number) c.close.new.self.trail
met c = rw (c.in-Conflict.is, c.requires.searching.in_order) at c.in_ok-close.ensures.ok

pub on_conflict-requires-clause-searching : goal.on_conflict-requires-clause-searching
on_conflict-requires-clause-searching c =
    IsSearching-Propagates ByNumber c.args.self.now.kernel c.close.new.self (conflict c.in-Conflict.number) c.requires.searching c.close.ensures.kept.0 c.close.ensures.kept.1 c.close.ensures.kept.2 c.close.ensures.kept.3 c.in_ok-close.ensures.has_memory (met c)

pub on_conflict-requires-clause-conflict : goal.on_conflict-requires-clause-conflict
on_conflict-requires-clause-conflict c = rw c.close.ensures.kept.1 (Propagates-conflict _ _ _ _ _ (met c))

pub returns-in-Quiet : goal.returns-in-Quiet
returns-in-Quiet c =
    IsSearchStep-from c.args.budget c.args.self.now c.on_quiet.new.self (record c.args.self.now { kernel = c.close.new.self }) quiet c.on_quiet.result
    (rw (c.in-Quiet.is, c.requires.searching.in_order) at c.in_ok-close.ensures.ok) c.close.ensures.kept (rw c.close.ensures.kept.1 refl) c.on_quiet.ensures.next c.on_quiet.ensures.kept

pub returns-in-Conflict : goal.returns-in-Conflict
returns-in-Conflict c =
    IsSearchStep-from c.args.budget c.args.self.now c.on_conflict.new.self (record c.args.self.now { kernel = c.close.new.self }) (conflict c.in-Conflict.number) c.on_conflict.result
    (rw (c.in-Conflict.is, c.requires.searching.in_order) at c.in_ok-close.ensures.ok) c.close.ensures.kept (rw c.close.ensures.kept.1 refl) c.on_conflict.ensures.next c.on_conflict.ensures.kept
