-- Sets of literals that are false on the trail, held as marks of their variables, and the places of
-- the trail where one is yet to be looked at.
use Rattle.std.specs.Prelude.{◌≡◌, ℕ, ◌+◌, ◌-◌, ◌<◌, ◌≤◌, ◌^◌, Bool, true, false, ◌&&◌, ◌||◌, nat_eq, nat_lt, List, [], ◌∷◌, length, take, reverse, All, Option, Some, None, if◌then◌else◌, count_by, slice_get, slice_index_or, vec_len, vec_capacity}
use Rattle.std.specs.List.{list_any}
use Rattle.theory.specs.Literals.{Literal, Clause, has, has_var, negated}
use Rattle.theory.specs.Truth.{IsOver}
use Rattle.theory.specs.Status.{is_false}
use Rattle.theory.specs.Trails.{Trail, Entry, literals, current_level, up_to, is_given}
use Rattle.theory.specs.Lawful.{IsLawful}
use Rattle.theory.specs.Learning.{IsRising, at_current_level, resolved_by, reason_used}
use Rattle.kernel.specs.State.{State}
use Rattle.theory.specs.Propagation.{clause_at}
use Rattle.cdcl.specs.Numbers.{is_one_of}
use Rattle.cdcl.specs.declared.analysis.marks.Marks.{Marks}

-- the marks and the count of literals of the current level stand for the set S
pub record IsMarked (k : State) (S : Clause) (marked : List Bool) (current : ℕ) : Type 0 where
  pub long : k.vars < length marked
  pub rising : IsRising S
  pub false_on : (l : Literal) → has S l ≡ true → has (literals k.trail) (negated l) ≡ true
  pub marks : (v : ℕ) → slice_index_or marked v false ≡ has_var S v
  pub counted : current ≡ at_current_level k.trail S

-- each variable of S is among those seen, which are variables of the kernel
pub record AreSeen (vars : ℕ) (S : Clause) (seen : List ℕ) : Type 0 where
  pub within : All (λ v. v ≤ vars) seen
  pub all : (v : ℕ) → has_var S v ≡ true → list_any (λ w. nat_eq w v) seen ≡ true

-- whether analysis resolves on an entry, whose negation a set has: it is of level 0, of the current
-- level, or between them with its negation among R, the removable literals
abbrev pub is_resolvable : Trail → List Literal → Entry → Bool
is_resolvable T R e = nat_eq e.level 0 || ((has R (negated e.lit) && nat_lt e.level (current_level T)) || nat_eq e.level (current_level T))

-- whether S has the negation of an entry's literal, and may be resolved on it
abbrev pub is_open : Trail → List Literal → Clause → Option Entry → Bool
is_open T R S None = false
is_open T R S (Some e) = has_var S e.lit.var && is_resolvable T R e

-- the place of the first entry of the current level
abbrev pub latest_from : Trail → ℕ
latest_from T = length (up_to T (current_level T - 1))

-- the places are those below the bound where S may be resolved, each once
abbrev pub ArePending : Trail → List Literal → Clause → ℕ → List ℕ → Type 0
ArePending T R S bound places = (q : ℕ) → count_by (λ p. nat_eq p q) places ≡ (if nat_lt q bound && is_open T R S (slice_get T q) then 1 else 0)

-- the marks stand for the set S, of which the places from the bound on were looked at, where the
-- literals R are removable
pub record IsSet (k : State) (R : List Literal) (S : Clause) (bound : ℕ) (m : Marks) : Type 0 where
  pub is : IsMarked k S m.marked.items m.current
  pub seen : AreSeen k.vars S m.seen.items
  pub pending : ArePending k.trail R S bound m.pending

-- the variables of c were seen in addition
abbrev pub Meets : Marks → Clause → Marks → Type 0
Meets before c after = (v : ℕ) → is_one_of after.seen.items v ≡ (has_var c v || is_one_of before.seen.items v)

-- the variables of the clauses of these numbers were seen, and no others
abbrev pub HaveMet : List Clause → List ℕ → Marks → Type 0
HaveMet K numbers m = (v : ℕ) → is_one_of m.seen.items v ≡ list_any (λ n. has_var (clause_at K n) v) numbers

-- no literal is in the set
pub record IsClear (m : Marks) : Type 0 where
  pub none : (v : ℕ) → slice_index_or m.marked.items v false ≡ false
  pub zero : m.current ≡ 0
  pub unseen : m.seen.items ≡ []
  pub done : m.pending ≡ []

-- there is room for so many more variables among those seen
abbrev pub HasRoom : ℕ → Marks → Type 0
HasRoom n m = vec_len m.seen + n ≤ vec_capacity m.seen

-- the marks stand for some set, whose places from a bound on were looked at, and the literals of c
-- are false below the bound
pub record CanJoin (k : State) (c : Clause) (m : Marks) : Type 0 where
  pub lawful : IsLawful k.clauses k.trail
  pub over : IsOver k.vars (literals k.trail)
  pub few : k.vars < 2 ^ 32
  pub set : Clause
  pub bound : ℕ
  pub is : IsSet k [] set bound m
  pub below : is_false (literals (take bound k.trail)) c ≡ true

-- the marks stand for some set, whose places from the entry's on were looked at, and the literals
-- of c are false below it
pub record CanResolve (k : State) (e : Entry) (c : Clause) (m : Marks) : Type 0 where
  pub joins : CanJoin k c m
  pub at : slice_get k.trail joins.bound ≡ Some e
  pub is_in : has_var joins.set e.lit.var ≡ true

-- the marks stand for some set, whose places from the entry's on were looked at, and which may be
-- resolved on the entry
pub record CanLookAt (k : State) (e : Entry) (m : Marks) : Type 0 where
  pub joins : CanJoin k [] m
  pub at : slice_get k.trail joins.bound ≡ Some e
  pub is_open_there : is_open k.trail [] joins.set (Some e) ≡ true

-- the set and the hints are what the entry makes of S and the hints before
pub record Resolves (k : State) (R : List Literal) (e : Entry) (S : Clause) (bound : ℕ) (before : List ℕ) (m : Marks) (hints : List ℕ) : Type 0 where
  pub is : IsSet k R (resolved_by k.clauses e (S, reverse before) (reason_used k.trail R S e)).0 bound m
  pub hints_are : reverse hints ≡ (resolved_by k.clauses e (S, reverse before) (reason_used k.trail R S e)).1

-- the negation of an entry's literal, unless it is the cube's
abbrev pub negation_of : Option Entry → Clause
negation_of None = []
negation_of (Some e) = if is_given (Some e) then [] else negated e.lit ∷ []
