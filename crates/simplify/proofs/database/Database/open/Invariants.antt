use Rattle.std.proofs.Common.{◌≡◌, map, take}
use Rattle.simplify.specs.Entries.{entry_of}
use Rattle.simplify.proofs.database.Database.open.Given as goal

-- the entries of the first clauses
abbrev pub invariant-loop-place : goal.invariant-loop-place
invariant-loop-place l = l.database ≡ record { vars = l.formula.vars; entries = map entry_of (take l.place l.formula.clauses) }
