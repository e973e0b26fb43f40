use Rattle.std.proofs.Common.{◌≡◌, length}
use Rattle.pool.specs.Opening.{Staged, AreRows, ids}
use Rattle.pool.proofs.opening.rows.Given as goal

abbrev pub invariant-rows : goal.invariant-rows
invariant-rows l = Staged l.vars l.h l.owners.items × (ids l.owners.items ≡ ids l.initial.owners.items) × AreRows l.vars (ids l.initial.owners.items) l.rows.items × (length l.rows.items ≡ l.h)
