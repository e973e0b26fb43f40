use Rattle.std.proofs.Common.{◌≡◌, ◌-◌, ◌++◌, length, List}
use Rattle.pool.specs.DequeNotes.{Cube}
use Rattle.pool.specs.Closing.{drained}
use Rattle.pool.proofs.closing.drain.Given as goal

abbrev pub invariant-drain : goal.invariant-drain
invariant-drain l = (cs : List Cube) × (l.left.items ≡ l.initial.left.items ++ cs) × (l.owner ≡ record l.initial.owner { notes = drained l.initial.owner.notes cs })

abbrev pub decreases-drain : goal.decreases-drain
decreases-drain l = length (l.owner.notes.roots ++ l.owner.notes.put) - length l.owner.notes.left
