use Rattle.std.proofs.Common.{◌≡◌, drop}
use Rattle.pool.specs.Closing.{Drained}
use Rattle.pool.proofs.closing.drain_all.Given as goal

abbrev pub invariant-drains : goal.invariant-drains
invariant-drains l = (l.owners.items ≡ drop l.counter l.initial.owners.items) × Drained l.initial.owners.items l.counter l.left.items
