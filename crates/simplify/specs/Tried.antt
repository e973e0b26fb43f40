-- A try of a variable, over the clauses as they are kept.
use Rattle.std.specs.Prelude.{◌≡◌, ℕ, ◌+◌, nat_eq, nat_le, Bool, not, ◌&&◌, ◌||◌, List, [], ◌∷◌, ◌++◌, map, length, Option, None, if◌then◌else◌}
use Rattle.std.specs.List.{list_any, list_all, flat_map}
use Rattle.theory.specs.Literals.{IsVariable, Literal, positive, negative, has_var}
use Rattle.theory.specs.Truth.{value}
use Rattle.theory.specs.Trails.{variables}
use Rattle.theory.specs.Learning.{Line}
use Rattle.theory.specs.Simplifying.{Eliminated}
use Rattle.theory.specs.Eliminating.{first_or}
use Rattle.theory.specs.Trying.{most_literals}
use Rattle.simplify.specs.Entries.{Entries, there, numbers_in, holding, units_in, has_unit_in, has_empty_in, weight_in}
use Rattle.simplify.specs.Candidates.{Waiting, weight_of, first_of}
use Rattle.simplify.specs.Resolving.{lines_of_pairs, literals_of_pairs}
use Rattle.simplify.specs.Stored.{with_clauses, without_entries}

-- the clauses that are resolved on x
abbrev pub left_in : ℕ → Entries → List ℕ
left_in x K = first_or (units_in (positive x) K) (holding (positive x) K)

abbrev pub right_in : ℕ → Entries → List ℕ
right_in x K = elim (units_in (positive x) K) [
  | [] ↦ first_or (units_in (negative x) K) (holding (negative x) K)
  | n ∷ ns ↦ holding (negative x) K
]

-- the lines of their resolvents
abbrev pub lines_in : ℕ → Entries → List Line
lines_in x K = lines_of_pairs x K (left_in x K) (right_in x K)

-- whether x is eliminated
abbrev pub is_worth_in : ℕ → Entries → Bool
is_worth_in x K = has_unit_in x K
    || (nat_le (length (lines_in x K)) (length (holding (positive x) K) + length (holding (negative x) K))
    && list_all (λ line. nat_le (length line.clause) most_literals) (lines_in x K))

-- the clauses that go with x
abbrev pub gone_in : ℕ → Entries → List ℕ
gone_in x K = numbers_in (λ c. has_var c x) 1 K

-- their variables, one as often as it stands there
abbrev pub vars_of : Entries → List ℕ → List ℕ
vars_of K ns = flat_map (λ n. map (λ (l : Literal). l.var) (there K n)) ns

-- the entries once x is eliminated
abbrev pub entries_without : ℕ → Entries → Entries
entries_without x K = without_entries (with_clauses K (lines_in x K)) (gone_in x K)

-- the line that says which clauses are dropped, where there are any
abbrev pub line_of_gone : List ℕ → List Line
line_of_gone [] = []
line_of_gone (n ∷ ns) = record { clause = []; hints = []; forgets = n ∷ ns } ∷ []

-- what a try changes: the clauses, the variables that wait, the lines written, the variables
-- eliminated, and how many literals were looked at
pub record State : Type 0 where
  pub vars : ℕ
  pub entries : Entries
  pub waiting : Waiting
  pub lines : List Line
  pub eliminated : List Eliminated
  pub work : ℕ

-- the weights are those of the clauses
pub record IsReady (a : State) : Type 0 where
  pub weights : a.waiting.weights ≡ map (weight_in a.entries) (variables a.vars)
  pub waits : length a.waiting.waits ≡ a.vars

-- the variables vs wait, with their weights by K, and all others are as they were
pub record IsRenewed (V : ℕ) (K : Entries) (vs : List ℕ) (old new : Waiting) : Type 0 where
  pub waits_long : length new.waits ≡ V
  pub weights_long : length new.weights ≡ V
  pub weights : (v : ℕ) → IsVariable V v → weight_of new.weights v ≡ (if list_any (nat_eq v) vs then weight_in K v else weight_of old.weights v)
  pub waits : (v : ℕ) → IsVariable V v → value new.waits v ≡ (value old.waits v || list_any (nat_eq v) vs)

-- whether y waits once x was tried
abbrev pub waits_then : ℕ → State → ℕ → Bool
waits_then x a y = not (nat_eq x y) && (value a.waiting.waits y || (is_worth_in x a.entries && list_any (λ n. has_var (there a.entries n) y) (gone_in x a.entries)))

abbrev pub waiting_then : ℕ → State → Entries → Waiting
waiting_then x a K = record { weights = map (weight_in K) (variables a.vars); waits = map (waits_then x a) (variables a.vars) }

-- x was eliminated, and waits still
pub record IsEliminated (x : ℕ) (a b : State) : Type 0 where
  pub vars : b.vars ≡ a.vars
  pub entries : b.entries ≡ entries_without x a.entries
  pub waiting : IsRenewed a.vars (entries_without x a.entries) (vars_of a.entries (gone_in x a.entries)) a.waiting b.waiting
  pub lines : b.lines ≡ a.lines ++ lines_in x a.entries ++ line_of_gone (gone_in x a.entries)
  pub eliminated : b.eliminated ≡ a.eliminated ++ record { var = x; clauses = map (there a.entries) (holding (positive x) a.entries) } ∷ []
  pub work : b.work ≡ a.work

-- x was eliminated, or it wasn't
abbrev pub eliminated_in : ℕ → State → State
eliminated_in x a = record a {
  entries = entries_without x a.entries;
  waiting = waiting_then x a (entries_without x a.entries);
  lines = a.lines ++ lines_in x a.entries ++ line_of_gone (gone_in x a.entries);
  eliminated = a.eliminated ++ record { var = x; clauses = map (there a.entries) (holding (positive x) a.entries) } ∷ [];
  work = a.work + literals_of_pairs a.entries (left_in x a.entries) (right_in x a.entries);
}

abbrev pub left_alone : ℕ → State → State
left_alone x a = record a {
  waiting = waiting_then x a a.entries;
  work = a.work + literals_of_pairs a.entries (left_in x a.entries) (right_in x a.entries);
}

-- x was tried
abbrev pub tried_in : ℕ → State → State
tried_in x a = if is_worth_in x a.entries then eliminated_in x a else left_alone x a

-- the variable that is tried next; none where a clause is empty, or too many literals were looked at
abbrev pub next_in : ℕ → State → Option ℕ
next_in most a = if has_empty_in a.entries || nat_le most a.work then None else first_of a.waiting
