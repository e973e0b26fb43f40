-- Which literals of a learnt clause follow from its others, so that it does without them.
-- Source: minimisation of learnt clauses (Sörensson and Biere, SAT 2009), as one walk over the
-- trail from its beginning.
use Rattle.std.specs.Prelude.{ℕ, Bool, false, ◌&&◌, ◌||◌, nat_eq, nat_lt, List, [], ◌∷◌, Option, Some, None, filter, if◌then◌else◌}
use Rattle.std.specs.List.{list_all}
use Rattle.theory.specs.Literals.{Literal, Clause, has, negated, without}
use Rattle.theory.specs.Trails.{Entry, Trail, current_level, level_of}
use Rattle.theory.specs.Propagation.{clause_at}
use Rattle.theory.specs.Learning.{Line, with_literals, walk, learn_removing}

-- the entries of the current level
abbrev pub latest : Trail → Trail
latest T = filter (λ e. nat_eq e.level (current_level T)) T

-- the walk from the conflict clause of number n over the current level alone: the set that it
-- leaves, and the numbers of the clauses that it resolved
abbrev pub first_walk : List Clause → Trail → ℕ → Clause × List ℕ
first_walk K T n = walk K T [] (latest T) (with_literals (clause_at K n) []) (n ∷ [])

-- whether each of the literals is of level 0, in the set S, or one of R, which are removable
abbrev pub are_covered : Trail → Clause → List Literal → Clause → Bool
are_covered T S R c = list_all (λ k. nat_eq (level_of T k) 0 || (has S k || has R k)) c

-- whether the other literals of l's reason are
abbrev pub is_covered : List Clause → Trail → Clause → List Literal → Literal → Option ℕ → Bool
is_covered K T S R l None = false
is_covered K T S R l (Some n) = are_covered T S R (without (clause_at K n) l)

-- whether the entry's negation is removable: between level 0 and the current one, by its reason
abbrev pub is_removable : List Clause → Trail → Clause → List Literal → Entry → Bool
is_removable K T S R e = nat_lt 0 e.level && (nat_lt e.level (current_level T) && is_covered K T S R e.lit e.reason)

-- the removable literals: those of R, and those of the entries, one after the other
abbrev pub removable : List Clause → Trail → Clause → Trail → List Literal → List Literal
removable K T S [] R = R
removable K T S (e ∷ es) R = removable K T S es (if is_removable K T S R e then negated e.lit ∷ R else R)

-- the line learnt from the conflict clause of number n, with what is removable resolved too
abbrev pub learn_short : List Clause → Trail → ℕ → Line
learn_short K T n = learn_removing (removable K T (first_walk K T n).0 T []) K T n
