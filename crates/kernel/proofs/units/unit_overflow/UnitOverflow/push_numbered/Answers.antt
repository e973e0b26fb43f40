use Rattle.std.proofs.lemmas.List.Sorted.{IsPermutation-append_left}
use Rattle.kernel.proofs.UnitLemmas.{heaped-units}
use Rattle.kernel.proofs.units.unit_overflow.UnitOverflow.push_numbered.Goals as goal

pub returns-in_ok-push : goal.returns-in_ok-push
returns-in_ok-push c = rw (← c.self.view_is, c.in_ok-put.ensures.left c.if-not-branch.true) (heaped-units _ _ _ _ c.in_ok-push.ensures)

pub returns-else-not-branch : goal.returns-else-not-branch
returns-else-not-branch c = rw (← c.self.view_is) (IsPermutation-append_left _ _ _ (c.in_ok-put.ensures.put c.if-not-branch.false))
