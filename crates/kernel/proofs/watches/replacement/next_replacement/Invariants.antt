use Rattle.std.proofs.Common.{◌≤◌, take}
use Rattle.theory.specs.Trails.{literals}
use Rattle.kernel.specs.Visiting.{IsLast}
use Rattle.kernel.proofs.watches.replacement.next_replacement.Given as goal

-- the literals so far are false, or `except`
abbrev pub invariant-loop-place : goal.invariant-loop-place
invariant-loop-place l = (l.fn.start ≤ l.place) × IsLast (literals l.trail.entries) (take l.place l.clause) l.except
