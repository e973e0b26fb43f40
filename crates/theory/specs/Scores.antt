-- The scores of variables, by which the focused search decides. Source: activities that grow by
-- ever greater steps (VSIDS of Chaff, DAC 2001, in the form of MiniSat, SAT 2003), in natural
-- numbers.
use Rattle.std.specs.Prelude.{ℕ, ◌+◌, ◌-◌, ◌/◌, nat_le, nat_lt, Bool, not, ◌&&◌, List, [], ◌∷◌, map, filter, Option, Some, None, slice_index_or, if◌then◌else◌}
use Rattle.std.specs.List.{list_any}
use Rattle.theory.specs.Literals.{Literal, Clause, has_var}
use Rattle.theory.specs.Trails.{Trail, level_at, entry_of, variables}
use Rattle.theory.specs.Plans.{Constants}
use Rattle.theory.specs.Propagation.{clause_at}
use Rattle.theory.specs.Modes.{Mode, restarting, stable}

-- the scores of the variables 1, 2 and so on, and what a score gains
pub record Scores : Type 0 where
  pub scores : List ℕ
  pub step : ℕ

abbrev pub first_scores : Constants → ℕ → Scores
first_scores c V = record { scores = map (λ v. 0) (variables V); step = c.first_step }

abbrev pub score_of : Scores → ℕ → ℕ
score_of s v = slice_index_or s.scores (v - 1) 0

-- the one of greater score, of equal ones the second
abbrev pub better : Scores → ℕ → Option ℕ → Option ℕ
better s v None = Some v
better s v (Some w) = if nat_le (score_of s v) (score_of s w) then Some w else Some v

-- the one of greatest score, of several the last
abbrev pub best_of : Scores → List ℕ → Option ℕ
best_of s [] = None
best_of s (v ∷ vs) = better s v (best_of s vs)

-- of these variables that have no literal in P, the one of greatest score, of several the last
abbrev pub best_outside : List ℕ → List Literal → Scores → Option ℕ
best_outside vs P s = best_of s (filter (λ v. not (has_var P v)) vs)

-- whether a conflict has seen the variable: it is above level 0, and in a clause of these numbers
abbrev pub is_seen : List Clause → Trail → List ℕ → ℕ → Bool
is_seen K T numbers v = nat_lt 0 (level_at (entry_of T v)) && list_any (λ n. has_var (clause_at K n) v) numbers

-- the part by which a step grows
abbrev pub growth : Constants → Mode → ℕ
growth c restarting = c.restarting_growth
growth c stable = c.stable_growth

-- the variables seen gain a step, and the step grows
abbrev pub gained : Constants → Mode → ℕ → (ℕ → Bool) → Scores → Scores
gained c mode V seen s = record {
  scores = map (λ v. score_of s v + (if seen v then s.step else 0)) (variables V);
  step = s.step + s.step / growth c mode;
}

-- scores stay below a bound; of two scores the greater one stays no less, though they may become
-- equal
abbrev pub divided : Constants → Scores → Scores
divided c s = if nat_le c.greatest_step s.step then record { scores = map (λ x. x / c.divisor) s.scores; step = s.step / c.divisor } else s

abbrev pub scores_after : Constants → Mode → ℕ → (ℕ → Bool) → Scores → Scores
scores_after c mode V seen s = divided c (gained c mode V seen s)
