-- How a variable is eliminated: by which resolvents, in which order. Source: Davis and Putnam (JACM
-- 1960); that a unit clause needs no resolvents but its own is unit propagation; the order is this
-- project's own.
use Rattle.std.specs.Prelude.{◌≡◌, ℕ, Bool, false, not, ◌&&◌, List, [], ◌∷◌, ◌++◌, map, filter, Contains}
use Rattle.std.specs.List.{list_all, flat_map}
use Rattle.std.specs.Option.{unwrap_or}
use Rattle.theory.specs.Literals.{Literal, Clause, positive, negative, same, has, has_var, has_both_signs}
use Rattle.theory.specs.Truth.{IsOver}
use Rattle.theory.specs.Learning.{Line, with_literals}
use Rattle.theory.specs.Checking.{clause_of}
use Rattle.theory.specs.Proofs.{numbers_from}
use Rattle.theory.specs.Simplifying.{resolvent, Simplified, Change, adds, drops, eliminates, AreNumbered}

-- the clause of a number, without literals where none is there
abbrev pub clause_there : Simplified → ℕ → Clause
clause_there s n = unwrap_or (clause_of s.clauses n) []

-- the rising numbers of the clauses there that pass the test
abbrev pub numbers_of : (Clause → Bool) → Simplified → List ℕ
numbers_of p s = filter (λ n. p (clause_there s n)) (numbers_from 1 s.last)

-- those that have l
abbrev pub holders : Literal → Simplified → List ℕ
holders l s = numbers_of (λ c. has c l) s

-- whether the clause has l, and no other literal
abbrev pub is_alone : Literal → Clause → Bool
is_alone l c = has c l && list_all (same l) c

-- those that have l alone
abbrev pub units_of : Literal → Simplified → List ℕ
units_of l s = numbers_of (is_alone l) s

-- the first one of the units, or all where there is none
abbrev pub first_or : List ℕ → List ℕ → List ℕ
first_or [] all = all
first_or (n ∷ units) all = n ∷ []

-- the clauses that are resolved on x: if it has a unit clause, that one with all others; a unit of
-- x before one of its negation
abbrev pub left_sides : ℕ → Simplified → List ℕ
left_sides x s = first_or (units_of (positive x) s) (holders (positive x) s)

abbrev pub right_sides : ℕ → Simplified → List ℕ
right_sides x s = elim (units_of (positive x) s) [
  | [] ↦ first_or (units_of (negative x) s) (holders (negative x) s)
  | n ∷ ns ↦ holders (negative x) s
]

-- the line of a resolvent, its literals by rising variable
abbrev pub resolvent_line : ℕ → Simplified → ℕ → ℕ → Line
resolvent_line x s i j = record { clause = with_literals (resolvent (positive x) (clause_there s i) (clause_there s j)) []; hints = i ∷ j ∷ []; forgets = [] }

-- the lines of all pairs, but for those with both signs of a variable
abbrev pub resolvent_lines : ℕ → Simplified → List Line
resolvent_lines x s = filter (λ line. not (has_both_signs line.clause)) (flat_map (λ i. map (resolvent_line x s i) (right_sides x s)) (left_sides x s))

-- the clauses that go with x
abbrev pub gone_with : ℕ → Simplified → List ℕ
gone_with x s = numbers_of (λ c. has_var c x) s

-- the changes that eliminate x
abbrev pub elimination : ℕ → Simplified → List Change
elimination x s = map adds (resolvent_lines x s) ++ eliminates x (gone_with x s) ∷ []

-- the one that drops the clauses with both signs of a variable
abbrev pub tidying : Simplified → List Change
tidying s = drops (numbers_of has_both_signs s) ∷ []

-- the clauses are over the variables 1 to V, each has its own number, and none has a variable in
-- both signs
pub record IsTidy (V : ℕ) (s : Simplified) : Type 0 where
  pub numbered : AreNumbered s.last s.clauses
  pub one_sign : (e : ℕ × Clause) → Contains s.clauses e → has_both_signs e.1 ≡ false
  pub over : (e : ℕ × Clause) → Contains s.clauses e → IsOver V e.1
