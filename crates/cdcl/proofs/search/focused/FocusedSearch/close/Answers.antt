use Rattle.std.proofs.Common.{length, ap}
use Rattle.theory.specs.Propagation.{by_place, Propagates}
use Rattle.kernel.specs.Answer.{closed_of}
use Rattle.cdcl.proofs.FocusedSteps.{IsFocusing-Propagates}
use Rattle.cdcl.proofs.ClosedSearches.{Closes-settled, units-before, units-above}
use Rattle.cdcl.proofs.search.focused.FocusedSearch.close.Goals as goal

closes : (c : goal.After-settle-arg-1) → Propagates by_place c.args.self.now.kernel.clauses c.args.self.now.kernel.trail (closed_of c.in_ok-closed.closed) c.close.new.self.trail
closes c = rw c.requires.focusing.searching.in_order at c.in_ok-closed.ensures.ok

pub settle-requires-clause-focusing : goal.settle-requires-clause-focusing
settle-requires-clause-focusing c =
    IsFocusing-Propagates c.args.self.now c.close.new.self (closed_of c.in_ok-closed.closed) c.requires.focusing c.close.ensures.kept.0 c.close.ensures.kept.1 c.close.ensures.kept.2 c.close.ensures.kept.3 c.in_ok-closed.ensures.has_memory (closes c)

pub settle-requires-clause-before : goal.settle-requires-clause-before
settle-requires-clause-before c level =
    units-before c.args.self.now c.close.new.self (closed_of c.in_ok-closed.closed) (length c.trail-from.result.now) c.requires.focusing c.requires.units c.close.ensures.kept.1 (ap length c.trail-from.ensures.trail) (closes c) level

pub settle-requires-clause-above : goal.settle-requires-clause-above
settle-requires-clause-above c above = units-above c.args.self.now c.close.new.self (closed_of c.in_ok-closed.closed) c.requires.units c.close.ensures.kept.1 (closes c) above

pub returns : goal.returns
returns c =
    Closes-settled c.args.self.now c.settle.new.self c.close.new.self (closed_of c.in_ok-closed.closed) c.close.ensures.kept.0 c.close.ensures.kept.1 c.close.ensures.kept.2 c.close.ensures.kept.3 c.in_ok-closed.ensures.has_memory
    (rw c.requires.focusing.searching.in_order at c.in_ok-closed.ensures.ok) (rw c.requires.focusing.searching.in_order at c.close.ensures.onward) c.in_ok-settle.ensures
