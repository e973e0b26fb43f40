-- The entries of a simplification's clauses, and what the changes do to them.
use Rattle.std.specs.Prelude.{ℕ, ◌-◌, List, [], ◌∷◌, ◌++◌, map, Option, Some, None, slice_set}
use Rattle.std.specs.Option.{option_map}
use Rattle.theory.specs.Learning.{Line}
use Rattle.theory.specs.Checking.{clause_of}
use Rattle.theory.specs.Proofs.{numbers_from}
use Rattle.theory.specs.Simplifying.{Simplified}
use Rattle.theory.specs.Literals.{Clause}
use Rattle.simplify.specs.Entries.{Entries, set, IsThere}

-- the entry of a number
abbrev pub entry_in : Simplified → ℕ → Option Clause
entry_in s n = option_map set (clause_of s.clauses n)

-- those of all numbers given away
abbrev pub stored : Simplified → Entries
stored s = map (entry_in s) (numbers_from 1 s.last)

-- behind them the clauses of the lines
abbrev pub with_clauses : Entries → List Line → Entries
with_clauses K lines = K ++ map (λ line. Some line.clause) lines

-- and without those of the numbers
abbrev pub without_entries : Entries → List ℕ → Entries
without_entries K [] = K
without_entries K (n ∷ ns) = without_entries (slice_set K (n - 1) None) ns

-- each of them is there when its turn comes
abbrev pub AreRemovable : Entries → List ℕ → Type 0
AreRemovable K [] = Unit {0}
AreRemovable K (n ∷ ns) = IsThere K n × AreRemovable (slice_set K (n - 1) None) ns
