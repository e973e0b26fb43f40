-- The learnt clauses among which some are forgotten.
use Rattle.std.specs.Prelude.{◌≡◌, ℕ, ◌+◌, ◌-◌, ◌≤◌, false, List, length, drop, ◌⊎◌}
use Rattle.theory.specs.Literals.{Clause, has_both_signs}
use Rattle.theory.specs.Plans.{Constants}
use Rattle.theory.specs.Trails.{Trail}
use Rattle.theory.specs.Forgetting.{Mark, forgotten, candidates, late_ones}

-- a clause over the variables 1 to V that was forgotten, or has no variable twice
abbrev pub IsPlain : ℕ → Clause → Type 0
IsPlain V c = ((has_both_signs c ≡ false) × (length c ≤ V)) ⊎ (c ≡ forgotten)

-- the numbers of the clauses that a round's end forgets, where the last ones have these marks
abbrev pub late_numbers : Constants → Trail → List Mark → List Clause → List ℕ
late_numbers c T marks K = let first = length K - length marks in late_ones (candidates c T (first + 1) (drop first K) marks)
