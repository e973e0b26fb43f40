-- Which variables are tried, in which order, and which are eliminated. Source: elimination where it
-- takes no more clauses (Eén and Biere, SAT 2005); order and limits are this project's own, as
-- measured.
use Rattle.std.specs.Prelude.{◌≡◌, ℕ, ◌+◌, ◌*◌, nat_eq, nat_le, Bool, true, not, ◌&&◌, ◌||◌, List, [], ◌∷◌, ◌++◌, map, filter, length, Option, Some, None, if◌then◌else◌}
use Rattle.std.specs.List.{list_any, list_all, sum_by}
use Rattle.theory.specs.Literals.{Clause, positive, negative, has, has_var}
use Rattle.theory.specs.Truth.{Formula, Assignment, value}
use Rattle.theory.specs.Trails.{variables}
use Rattle.theory.specs.Checking.{is_empty}
use Rattle.theory.specs.Simplifying.{Simplified, unsimplified, Change, changed_by, clauses_in}
use Rattle.theory.specs.Eliminating.{clause_there, holders, is_alone, left_sides, right_sides, resolvent_lines, gone_with, elimination, tidying}

-- a variable is tried if it has so few pairs of clauses, and eliminated if its resolvents have so
-- few literals; and so many times the formula's literals are looked at
abbrev pub most_pairs : ℕ
most_pairs = 100

abbrev pub most_literals : ℕ
most_literals = 20

abbrev pub effort : ℕ
effort = 100

-- how many literals the clause has, each counted once
abbrev pub size : Clause → ℕ
size [] = 0
size (l ∷ c) = if has c l then size c else size c + 1

-- the state of the tries: the clauses, the variables that wait to be tried as those that are true,
-- and how many literals were looked at
pub record Trial : Type 0 where
  pub state : Simplified
  pub waiting : Assignment
  pub work : ℕ

-- whether some clause there has a literal of x alone
abbrev pub has_unit : ℕ → Simplified → Bool
has_unit x s = list_any (λ c. is_alone (positive x) c || is_alone (negative x) c) (clauses_in s.clauses)

-- how many pairs x has, or 0 where it has a unit clause
abbrev pub weight : Simplified → ℕ → ℕ
weight s x = if has_unit x s then 0 else length (holders (positive x) s) * length (holders (negative x) s)

-- the one of least weight, of several the first
abbrev pub lighter : Simplified → ℕ → Option ℕ → Option ℕ
lighter s x None = Some x
lighter s x (Some y) = if nat_le (weight s x) (weight s y) then Some x else Some y

-- the lightest of them all
abbrev pub lightest : Simplified → List ℕ → Option ℕ
lightest s [] = None
lightest s (x ∷ xs) = lighter s x (lightest s xs)

-- the variable that is tried next; none where a clause is empty, or too many literals were looked
-- at
abbrev pub next_tried : ℕ → ℕ → Trial → Option ℕ
next_tried V most t =
    if list_any is_empty (clauses_in t.state.clauses) || nat_le most t.work then None
    else lightest t.state (filter (λ x. value t.waiting x && nat_le (weight t.state x) most_pairs) (variables V))

-- whether x is eliminated: it has a unit clause, or no more resolvents than clauses, none of them
-- long
abbrev pub is_worth : ℕ → Simplified → Bool
is_worth x s =
    has_unit x s || (nat_le (length (resolvent_lines x s)) (length (holders (positive x) s) + length (holders (negative x) s))
    && list_all (λ line. nat_le (length line.clause) most_literals) (resolvent_lines x s))

-- the changes of a try
abbrev pub changes_of : ℕ → Simplified → List Change
changes_of x s = if is_worth x s then elimination x s else []

-- the literals of all pairs
abbrev pub looked_at : ℕ → Simplified → ℕ
looked_at x s = sum_by (λ i. sum_by (λ j. size (clause_there s i) + size (clause_there s j)) (right_sides x s)) (left_sides x s)

-- whether a clause that goes with x has y
abbrev pub is_touched : ℕ → Simplified → ℕ → Bool
is_touched x s y = is_worth x s && list_any (λ n. has_var (clause_there s n) y) (gone_with x s)

-- x was tried: it waits no more, but the other variables of the clauses dropped do
abbrev pub tried : ℕ → ℕ → Trial → Trial
tried V x t = record {
  state = changed_by t.state (changes_of x t.state);
  waiting = map (λ y. not (nat_eq x y) && (value t.waiting y || is_touched x t.state y)) (variables V);
  work = t.work + looked_at x t.state;
}

-- from the state t on these changes are made
pub data Tries (V most : ℕ) : Trial → List Change → Type 0 where
  rests : {t : Trial} → next_tried V most t ≡ None → Tries V most t []
  tries : {t : Trial} {cs : List Change} (x : ℕ) → next_tried V most t ≡ Some x → Tries V most (tried V x t) cs → Tries V most t (changes_of x t.state ++ cs)

-- all variables wait
abbrev pub first_trial : Formula → Trial
first_trial F = record { state = changed_by (unsimplified F) (tidying (unsimplified F)); waiting = map (λ v. true) (variables F.vars); work = 0 }

-- the changes that simplify the formula
abbrev pub IsSimplification : Formula → List Change → Type 0
IsSimplification F cs = (ds : List Change) × (cs ≡ tidying (unsimplified F) ++ ds) × Tries F.vars (effort * sum_by size F.clauses) (first_trial F) ds
