use Rattle.std.proofs.Common.{◌≡◌, drop}
use Rattle.pool.specs.Closing.{Merging}
use Rattle.pool.proofs.closing.merge.Given as goal

abbrev pub invariant-merge : goal.invariant-merge
invariant-merge l = (l.thieves.items ≡ drop l.d l.initial.thieves.items) × Merging l.initial.owners.items l.initial.thieves.items l.d l.owners.items
