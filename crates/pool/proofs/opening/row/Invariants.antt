use Rattle.std.proofs.Common.{◌≡◌, ◌≤◌, length, take}
use Rattle.pool.specs.Opening.{Halfway, IsRow, ids}
use Rattle.pool.proofs.opening.row.Given as goal

abbrev pub invariant-row : goal.invariant-row
invariant-row l = Halfway l.vars l.h l.d l.owners.items × (ids l.owners.items ≡ ids l.initial.owners.items) × IsRow l.vars l.h l.thieves.items × (ids l.thieves.items ≡ take l.d (ids l.initial.owners.items)) × (length l.thieves.items ≡ l.d) × (length l.owners.items ≡ length l.initial.owners.items) × (length l.thieves.items ≤ length l.initial.owners.items)
