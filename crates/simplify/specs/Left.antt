-- The clauses that are left.
use Rattle.std.specs.Prelude.{ℕ, nat_le, List, map, length, is_some, if◌then◌else◌}
use Rattle.theory.specs.Literals.{Clause}
use Rattle.theory.specs.Truth.{Formula}
use Rattle.theory.specs.Propagation.{clause_at}
use Rattle.theory.specs.Forgetting.{forgotten}
use Rattle.theory.specs.Proofs.{numbers_from}
use Rattle.simplify.specs.Entries.{Entries, entry_at, there}

-- the clause of a number: the formula's, as it stands there, or one that was added; where none is
-- there, a forgotten one
abbrev pub left_at : Formula → Entries → ℕ → Clause
left_at F K n = if is_some (entry_at K n) then (if nat_le n (length F.clauses) then clause_at F.clauses n else there K n) else forgotten

abbrev pub left_clauses : Formula → Entries → List Clause
left_clauses F K = map (left_at F K) (numbers_from 1 (length K))
