use Rattle.std.proofs.Common.{◌≡◌, drop, take}
use Rattle.pool.specs.Closing.{AreParts, calls_of}
use Rattle.pool.proofs.closing.take_apart.Given as goal

abbrev pub invariant-take_apart : goal.invariant-take_apart
invariant-take_apart l = (l.hands.items ≡ drop l.counter l.initial.hands.items) × AreParts (take l.counter l.initial.hands.items) l.owners.items l.rows.items × (l.words.table ≡ l.initial.words.table) × (l.words.notes ≡ record l.initial.words.notes { calls = calls_of (take l.counter l.initial.hands.items) })
