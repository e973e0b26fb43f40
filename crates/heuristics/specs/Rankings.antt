-- The variables by their scores, and which of them wait to be chosen.
use Rattle.std.specs.Prelude.{◌≡◌, ◌≢◌, ℕ, ◌+◌, ◌-◌, ◌*◌, ◌<◌, ◌≤◌, Bool, true, false, All, List, map, filter, drop, length, Option, nat_eq, nat_lt, slice_index, slice_index_or, slice_set}
use Rattle.std.specs.List.{list_any}
use Rattle.theory.specs.Literals.{Literal, IsVariable, has_var}
use Rattle.theory.specs.Plans.{Constants}
use Rattle.theory.specs.Modes.{Mode}
use Rattle.theory.specs.Trails.{variables}
use Rattle.theory.specs.Scores.{Scores, first_scores, best_of, scores_after}
use Rattle.heuristics.specs.Tournaments.{IsPlayedBut}

-- the numbers of the search, the scores of the variables 1, 2 and so on, and whether each of them
-- waits to be chosen
pub record Ranking : Type 0 where
  pub constants : Constants
  pub scores : Scores
  pub waiting : List Bool

-- how many variables it has
abbrev pub vars_of : Ranking → ℕ
vars_of r = length r.scores.scores

abbrev pub waits : Ranking → ℕ → Bool
waits r v = slice_index_or r.waiting (v - 1) false

-- as a cube begins: all wait
abbrev pub first_ranking : Constants → ℕ → Ranking
first_ranking c V = record { constants = c; scores = first_scores c V; waiting = map (λ v. true) (variables V) }

-- of those that wait, the one of greatest score, of several the greatest
abbrev pub best_waiting : Ranking → Option ℕ
best_waiting r = best_of r.scores (filter (waits r) (variables (vars_of r)))

-- each variable that passes the test and has no literal in P waits
abbrev pub AllWait : Ranking → (ℕ → Bool) → List Literal → Type 0
AllWait r p P = (v : ℕ) → IsVariable (vars_of r) v → p v ≡ true → has_var P v ≡ false → waits r v ≡ true

-- the same, but that the variable waits or doesn't
abbrev pub with_waiting : Ranking → ℕ → Bool → Ranking
with_waiting r v b = record r { waiting = slice_set r.waiting (v - 1) b }

-- the scores after a conflict in this mode that has seen these variables
abbrev pub after_conflict : Ranking → Mode → List ℕ → Ranking
after_conflict r mode seen = record r { scores = scores_after r.constants mode (vars_of r) (λ v. list_any (nat_eq v) seen) r.scores }

-- all but the scores stays
pub record IsKept (r s : Ranking) : Type 0 where
  pub waiting : s.waiting ≡ r.waiting
  pub constants : s.constants ≡ r.constants
  pub vars : vars_of s ≡ vars_of r

-- no number stands there twice
abbrev pub AreDistinct : List ℕ → Type 0
AreDistinct xs = (i j : ℕ) → i < j → j < length xs → slice_index xs i ≢ slice_index xs j

-- which variables wait by the leaves of a tournament; the first leaf is that of number 0, which is
-- no variable
abbrev pub waiting_in : List ℕ → List ℕ → List Bool
waiting_in S W = map (nat_lt 0) (drop 1 (drop (length S) W))

-- scores S by variable, number 0 among them, the tournament W by them, and the variables G that
-- gained: others have the score 0
pub record AreRanked (S W G : List ℕ) : Type 0 where
  pub played : IsPlayedBut S W 0
  pub none : slice_index S 0 ≡ 0
  pub within : (i : ℕ) → slice_index G i < length S
  pub gained : (v : ℕ) → slice_index S v ≢ 0 → list_any (nat_eq v) G ≡ true

-- scores S by variable are at most 32 times one more than the step
abbrev pub AreBounded : List ℕ → ℕ → Type 0
AreBounded S step = All (λ x. x ≤ 32 * (step + 1)) (drop 1 S)

-- what scores by variable, a step and a tournament show
abbrev pub ranking : Constants → List ℕ → ℕ → List ℕ → Ranking
ranking c S step W = record { constants = c; scores = record { scores = drop 1 S; step = step }; waiting = waiting_in S W }
