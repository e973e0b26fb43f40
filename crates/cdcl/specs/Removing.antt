-- Questions for removable literals: what is known of the variables between level 0 and the current
-- one.
use Rattle.std.specs.Prelude.{◌≡◌, ℕ, ◌+◌, ◌<◌, ◌≤◌, Bool, true, false, ◌||◌, nat_eq, nat_lt, take, List, [], length, get_or, All, Option, Some, None, slice_index_or, ◌&&◌, ◌∷◌, if◌then◌else◌, count_by, slice_get}
use Rattle.std.specs.List.Sorted.{IsPermutation}
use Rattle.theory.specs.Literals.{Literal, Clause, negated, has, has_var, without}
use Rattle.theory.specs.Trails.{Trail, Entry, literals, entry_of, level_of, current_level}
use Rattle.theory.specs.Status.{is_false}
use Rattle.theory.specs.Lawful.{IsLawful}
use Rattle.theory.specs.Truth.{IsOver}
use Rattle.theory.specs.Propagation.{clause_at}
use Rattle.theory.specs.Removing.{removable}
use Rattle.kernel.specs.State.{State}
use Rattle.cdcl.specs.Numbers.{is_one_of}
use Rattle.cdcl.specs.Marks.{IsSet, is_open}
use Rattle.cdcl.specs.declared.analysis.marks.Marks.{Marks}
use Rattle.cdcl.specs.declared.analysis.minimize.Minimizer.{Minimizer}

-- the literals that are removable beside the set S
abbrev pub removable_of : State → Clause → List Literal
removable_of k S = removable k.clauses k.trail S k.trail []

-- the reason of an entry
abbrev pub reason_at : Option Entry → Option ℕ
reason_at None = None
reason_at (Some e) = e.reason

-- the variable has a reason, and is of a level between 0 and the current one
pub record IsBetween (k : State) (v : ℕ) : Type 0 where
  pub entry : Entry
  pub there : entry_of k.trail v ≡ Some entry
  pub above : 1 ≤ entry.level
  pub lower : entry.level < current_level k.trail
  pub number : ℕ
  pub reason : entry.reason ≡ Some number

-- what is known is so, where S is the set
pub record IsKnown (k : State) (S : Clause) (a : Minimizer) : Type 0 where
  pub removable : (v : ℕ) → is_one_of a.removable.numbers v ≡ true → has_var (removable_of k S) v ≡ true
  pub kept : (v : ℕ) → is_one_of a.kept.numbers v ≡ true → has_var (removable_of k S) v ≡ false

-- whether a variable is known
abbrev pub is_known : Minimizer → ℕ → Bool
is_known a v = is_one_of a.removable.numbers v || is_one_of a.kept.numbers v

-- whether a literal is of level 0, marked, removable or reached
abbrev pub is_covered_by : Trail → List Bool → Minimizer → Literal → Bool
is_covered_by T marked a l = nat_eq (level_of T l) 0 || (slice_index_or marked l.var false || (is_one_of a.removable.numbers l.var || is_one_of a.reached.numbers l.var))

-- the other literals of the variable's reason are
pub record IsClosed (k : State) (marked : List Bool) (a : Minimizer) (v : ℕ) : Type 0 where
  pub between : IsBetween k v
  pub others : (l : Literal) → has (without (clause_at k.clauses between.number) between.entry.lit) l ≡ true → is_covered_by k.trail marked a l ≡ true

-- where a variable that was reached isn't removable, its parent isn't
pub record HasParent (k : State) (S : Clause) (a : Minimizer) (i : ℕ) : Type 0 where
  pub before : get_or a.parents.items i 0 < i
  pub kept : has_var (removable_of k S) (get_or a.reached.numbers i 0) ≡ false → has_var (removable_of k S) (get_or a.reached.numbers (get_or a.parents.items i 0) 0) ≡ false

-- a question, of which so many of the variables reached are closed
pub record IsAsking (k : State) (S : Clause) (marked : List Bool) (a : Minimizer) (done : ℕ) : Type 0 where
  pub known : IsKnown k S a
  pub between : All (IsBetween k) a.reached.numbers
  pub closed : (i : ℕ) → i < done → IsClosed k marked a (get_or a.reached.numbers i 0)
  pub parents_many : length a.parents.items ≡ length a.reached.numbers
  pub parents : (i : ℕ) → 1 ≤ i → i < length a.reached.numbers → HasParent k S a i

-- there is room for each variable
pub record HasRoomFor (vars : ℕ) (a : Minimizer) : Type 0 where
  pub reached : vars < a.reached.bound
  pub removable : a.removable.bound ≡ a.reached.bound
  pub kept : a.kept.bound ≡ a.reached.bound

-- c has the literals of the variable's reason
pub record IsReasonOf (k : State) (v : ℕ) (c : Clause) : Type 0 where
  pub between : IsBetween k v
  pub permuted : IsPermutation (clause_at k.clauses between.number) c

-- all that the variable at a place needs is covered, or it isn't removable
abbrev pub IsAnswered : State → Clause → List Bool → ℕ → Bool → Minimizer → Type 0
IsAnswered k S marked at true a = IsAsking k S marked a (at + 1)
IsAnswered k S marked at false a = IsAsking k S marked a at × (has_var (removable_of k S) (get_or a.reached.numbers at 0) ≡ false)

-- the variables reached before stand there still, at their places
pub record Reaches (old new : Minimizer) : Type 0 where
  pub many : length old.reached.numbers ≤ length new.reached.numbers
  pub same : (i : ℕ) → i < length old.reached.numbers → get_or new.reached.numbers i 0 ≡ get_or old.reached.numbers i 0
  pub bound : new.reached.bound ≡ old.reached.bound

-- what was known is known
abbrev pub KnowsStill : Minimizer → Minimizer → Type 0
KnowsStill old new = (v : ℕ) → is_known old v ≡ true → is_known new v ≡ true

-- each variable of the set that may be removable is known
abbrev pub KnowsAll : State → Clause → Minimizer → Type 0
KnowsAll k S a = (v : ℕ) → has_var S v ≡ true → IsBetween k v → is_known a v ≡ true

-- whether an entry's variable is marked, and one of these
abbrev pub is_awaited : List Bool → List ℕ → Option Entry → Bool
is_awaited marked vars None = false
is_awaited marked vars (Some e) = slice_index_or marked e.lit.var false && is_one_of vars e.lit.var

-- the place of a variable waits in addition, if it is marked
abbrev pub WaitsFor : Trail → List Bool → ℕ → List ℕ → List ℕ → Type 0
WaitsFor T marked v old new = (q : ℕ) → count_by (λ p. nat_eq p q) new ≡ (if is_awaited marked (v ∷ []) (slice_get T q) then 1 else 0) + count_by (λ p. nat_eq p q) old

-- whether a literal is in the set, or the set may be resolved on it below the current level
abbrev pub is_settled : Trail → List Literal → Clause → Literal → Bool
is_settled T R S l = has S l || (nat_eq (level_of T l) 0 || (has R l && nat_lt (level_of T l) (current_level T)))

abbrev pub AreSettled : Trail → List Literal → Clause → Clause → Type 0
AreSettled T R S c = (l : Literal) → has c l ≡ true → is_settled T R S l ≡ true

-- the marks stand for some set, whose places from a bound on were looked at; the literals of c are
-- false below the bound, and settled
pub record CanFollow (k : State) (c : Clause) (m : Marks) : Type 0 where
  pub lawful : IsLawful k.clauses k.trail
  pub over : IsOver k.vars (literals k.trail)
  pub above : 1 ≤ current_level k.trail
  pub removable : List Literal
  pub set : Clause
  pub bound : ℕ
  pub is : IsSet k removable set bound m
  pub below : is_false (literals (take bound k.trail)) c ≡ true
  pub settled : AreSettled k.trail removable set c

-- the same, where the set has an entry's negation, and the literals are those of a reason of it
pub record CanResolveBelow (k : State) (e : Entry) (reason : Clause) (m : Marks) : Type 0 where
  pub lawful : IsLawful k.clauses k.trail
  pub over : IsOver k.vars (literals k.trail)
  pub lower : e.level < current_level k.trail
  pub removable : List Literal
  pub set : Clause
  pub bound : ℕ
  pub is : IsSet k removable set bound m
  pub at : slice_get k.trail bound ≡ Some e
  pub is_in : has set (negated e.lit) ≡ true
  pub below : is_false (literals (take bound k.trail)) (without reason e.lit) ≡ true
  pub settled : AreSettled k.trail removable (without set (negated e.lit)) (without reason e.lit)

-- the other literals of the entry's reason are settled, if it has one
abbrev pub HasSettled : State → List Literal → Clause → Entry → Type 0
HasSettled k R S e = (n : ℕ) → e.reason ≡ Some n → AreSettled k.trail R (without S (negated e.lit)) (without (clause_at k.clauses n) e.lit)

-- the set may be resolved on the entry
pub record CanLookBelow (k : State) (e : Entry) (m : Marks) : Type 0 where
  pub lawful : IsLawful k.clauses k.trail
  pub over : IsOver k.vars (literals k.trail)
  pub lower : e.level < current_level k.trail
  pub removable : List Literal
  pub set : Clause
  pub bound : ℕ
  pub is : IsSet k removable set bound m
  pub at : slice_get k.trail bound ≡ Some e
  pub is_open_there : is_open k.trail removable set (Some e) ≡ true
  pub settled : HasSettled k removable set e
