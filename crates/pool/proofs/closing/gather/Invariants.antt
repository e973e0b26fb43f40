use Rattle.std.proofs.Common.{◌≡◌, drop, take}
use Rattle.pool.specs.Opening.{ids}
use Rattle.pool.specs.Closing.{Gathered}
use Rattle.pool.proofs.closing.gather.Given as goal

abbrev pub invariant-gather : goal.invariant-gather
invariant-gather l = (l.rows.items ≡ drop l.counter l.initial.rows.items) × Gathered l.initial.owners.items (take l.counter l.initial.rows.items) l.owners.items × (ids l.owners.items ≡ ids l.initial.owners.items)
