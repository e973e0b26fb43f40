use Rattle.kernel.proofs.UnitLemmas.{heaped-units}
use Rattle.kernel.proofs.units.unit_overflow.UnitOverflow.push_placed.Goals as goal

pub returns : goal.returns
returns c = rw (← c.self.view_is) (heaped-units _ _ _ _ c.in_ok-push.ensures)
