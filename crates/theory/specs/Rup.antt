-- Steps of which each addition passes by its hints alone, so that none needs a pivot (RUP, never
-- RAT). Source: reverse unit propagation (Goldberg and Novikov, DATE 2003), by LRAT's hints.
use Rattle.std.specs.Prelude.{ℕ, Bool, true, false, ◌&&◌, List, [], ◌∷◌, length}
use Rattle.theory.specs.Literals.{negations}
use Rattle.theory.specs.Truth.{Formula}
use Rattle.theory.specs.Steps.{Step, add, delete}
use Rattle.theory.specs.Checking.{Taken, conflicts, holds, fails, take_hints, numbered_from, Checker, leaves, faulty, test}

abbrev pub is_conflict : Taken → Bool
is_conflict conflicts = true
is_conflict (holds P) = false
is_conflict (fails f) = false

abbrev pub passes_by_hints : Checker → Step → Bool
passes_by_hints s (add a) = is_conflict (take_hints s.clauses (negations a.clause) a.hints)
passes_by_hints s (delete d) = true

-- the steps from the state s on, none of which has a fault
abbrev pub are_by_hints : ℕ → Checker → List Step → Bool
are_by_hints V s [] = true
are_by_hints V s (step ∷ steps) = passes_by_hints s step && elim (test V s step) [ leaves t ↦ are_by_hints V t steps | faulty f ↦ false ]

abbrev pub is_rup : Formula → List Step → Bool
is_rup F steps = are_by_hints F.vars (record { clauses = numbered_from 1 F.clauses; last = length F.clauses; empty = false }) steps
