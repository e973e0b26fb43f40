-- The variables that the clauses of a formula hold; the focused search chooses among them alone. So
-- one that stands nowhere is never decided, and a model has it false. Source: this project's own.
use Rattle.std.specs.Prelude.{ℕ, Bool, not, ◌&&◌, List, filter, find, Option}
use Rattle.std.specs.List.{list_any}
use Rattle.theory.specs.Literals.{Clause, has_var, has_both_signs}
use Rattle.theory.specs.Truth.{Formula}
use Rattle.theory.specs.Trails.{Trail, literals, variables}

-- whether one of the clauses has the variable; those with both signs of a variable don't count, as a
-- clause that is gone is such a one
abbrev pub is_held : List Clause → ℕ → Bool
is_held K v = list_any (λ c. has_var c v && not (has_both_signs c)) K

-- the held ones of the variables 1 to V, by rising variable
abbrev pub held : Formula → List ℕ
held F = filter (is_held F.clauses) (variables F.vars)

-- the least of them that isn't on the trail
abbrev pub least_held : Formula → Trail → Option ℕ
least_held F T = find (λ v. not (has_var (literals T) v)) (held F)
