use Rattle.std.proofs.Common.{◌≤◌, ◌<◌, ◌-◌, length, take}
use Rattle.theory.specs.Literals.{Literal}
use Rattle.theory.specs.Trails.{literals}
use Rattle.kernel.specs.Visiting.{IsLast}
use Rattle.kernel.proofs.watches.replacement.first_open.Given as goal

-- the literals from the start so far are false
abbrev pub invariant-places : goal.invariant-places
invariant-places l = (l.fn.start ≤ l.place) × (l.place < length l.clause) × ((k : Literal) → IsLast (literals l.truths.trail.now.entries) (take l.fn.start l.clause) k → IsLast (literals l.truths.trail.now.entries) (take l.place l.clause) k)

abbrev pub decreases-places : goal.decreases-places
decreases-places l = length l.clause - l.place
