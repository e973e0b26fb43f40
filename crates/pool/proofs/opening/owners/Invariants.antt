use Rattle.std.proofs.Common.{◌≡◌, length}
use Rattle.pool.specs.Opening.{Staged}
use Rattle.pool.proofs.opening.owners.Given as goal

abbrev pub invariant-owners : goal.invariant-owners
invariant-owners l = Staged l.vars 0 l.owners.items × (length l.owners.items ≡ l.counter)
