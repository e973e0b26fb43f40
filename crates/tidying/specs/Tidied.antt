-- Formulas without repeated literals and without tautologies. Source: the Handbook of Satisfiability:
-- a clause as a set of literals; a clause with both signs of a variable is always true.
use Rattle.std.specs.Prelude.{Bool, not, nat_lt, List, [], ◌∷◌, map, filter, length}
use Rattle.std.specs.List.{list_any}
use Rattle.theory.specs.Literals.{Clause, has_both_signs, without}
use Rattle.theory.specs.Truth.{Formula}

-- each literal once, where it stands first
abbrev pub once : Clause → Clause
once [] = []
once (l ∷ c) = l ∷ without (once c) l

-- the clauses that aren't always true
abbrev pub open_clauses : List Clause → List Clause
open_clauses cs = filter (λ c. not (has_both_signs c)) cs

-- these, each literal once
abbrev pub tidied : Formula → Formula
tidied F = record { vars = F.vars; clauses = map once (open_clauses F.clauses) }

-- whether a literal stands twice in one of these
abbrev pub has_repeats : Formula → Bool
has_repeats F = list_any (λ c. nat_lt (length (once c)) (length c)) (open_clauses F.clauses)
