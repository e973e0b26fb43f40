use Rattle.std.proofs.Common.{◌<◌}
use Rattle.theory.specs.Propagation.{quiet, conflict}
use Rattle.cdcl.specs.Focusing.{Closes}
use Rattle.cdcl.proofs.FocusedSteps.{if_ok-map}
use Rattle.cdcl.proofs.ClosedSearches.{closes-conflicts, step-from, step-units, kept-from}
use Rattle.cdcl.proofs.search.focused.FocusedSearch.step.Goals as goal

came_to_rest : (c : goal.After-on_quiet-arg-1) → Closes c.args.self.now quiet c.close.new.self
came_to_rest c = rw c.in-Quiet.is at c.in_ok-close.ensures

met : (c : goal.After-on_conflict-arg-1) → Closes c.args.self.now (conflict c.in-Conflict.number) c.close.new.self
met c = rw c.in-Conflict.is at c.in_ok-close.ensures

rested : (c : goal.After-on_quiet) → Closes c.args.self.now quiet c.close.new.self
rested c = rw c.in-Quiet.is at c.in_ok-close.ensures

clashed : (c : goal.After-on_conflict) → Closes c.args.self.now (conflict c.in-Conflict.number) c.close.new.self
clashed c = rw c.in-Conflict.is at c.in_ok-close.ensures

pub on_quiet-requires-clause-focusing : goal.on_quiet-requires-clause-focusing
on_quiet-requires-clause-focusing c = (came_to_rest c).focusing

pub on_quiet-requires-clause-quiet : goal.on_quiet-requires-clause-quiet
on_quiet-requires-clause-quiet c = (came_to_rest c).answers

pub on_conflict-requires-clause-focusing : goal.on_conflict-requires-clause-focusing
on_conflict-requires-clause-focusing c = (met c).focusing

pub on_conflict-requires-clause-units : goal.on_conflict-requires-clause-units
on_conflict-requires-clause-units c = (met c).units

pub on_conflict-requires-clause-conflict : goal.on_conflict-requires-clause-conflict
on_conflict-requires-clause-conflict c = (met c).answers

pub on_conflict-requires-clause-counted : goal.on_conflict-requires-clause-counted
on_conflict-requires-clause-counted c = rw (closes-conflicts c.args.self.now c.close.new.self (conflict c.in-Conflict.number) (met c)) c.requires.counted

pub returns-in-Quiet-clause-step : goal.returns-in-Quiet-clause-step
returns-in-Quiet-clause-step c =
    let s = c.args.self.now in
    let n = c.close.new.self in
    let fewer : n.conflicts < c.args.last = rw (closes-conflicts s n quiet (rested c)) c.requires.counted.0 in
    step-from c.args.last s n c.on_quiet.new.self quiet c.on_quiet.result (rested c) (if_ok-map c.on_quiet.result _ _ (λ o h saved. h saved c.args.last fewer) c.on_quiet.ensures.next)

pub returns-in-Quiet-clause-units : goal.returns-in-Quiet-clause-units
returns-in-Quiet-clause-units c = step-units c.args.last c.args.self.now c.on_quiet.new.self c.on_quiet.result c.requires.focusing c.requires.units (returns-in-Quiet-clause-step c)

pub returns-in-Quiet-clause-kept : goal.returns-in-Quiet-clause-kept
returns-in-Quiet-clause-kept c = kept-from c.args.self.now c.close.new.self c.on_quiet.new.self c.on_quiet.result (rested c).continues c.on_quiet.ensures.kept

pub returns-in-Conflict-clause-step : goal.returns-in-Conflict-clause-step
returns-in-Conflict-clause-step c =
    step-from c.args.last c.args.self.now c.close.new.self c.on_conflict.new.self (conflict c.in-Conflict.number) c.on_conflict.result (clashed c) c.on_conflict.ensures.next

pub returns-in-Conflict-clause-units : goal.returns-in-Conflict-clause-units
returns-in-Conflict-clause-units c = step-units c.args.last c.args.self.now c.on_conflict.new.self c.on_conflict.result c.requires.focusing c.requires.units (returns-in-Conflict-clause-step c)

pub returns-in-Conflict-clause-kept : goal.returns-in-Conflict-clause-kept
returns-in-Conflict-clause-kept c = kept-from c.args.self.now c.close.new.self c.on_conflict.new.self c.on_conflict.result (clashed c).continues c.on_conflict.ensures.kept
