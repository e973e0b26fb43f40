-- A trail together with the number of variables that it is over, and what is kept of it whatever
-- the clauses.
use Rattle.std.specs.Prelude.{◌≡◌, ℕ, ◌≤◌, true, [], ◌∷◌}
use Rattle.theory.specs.Truth.{IsOver}
use Rattle.theory.specs.Trails.{Trail, literals}
use Rattle.theory.specs.Literals.{are_distinct}

pub record TrailOver : Type 0 where
  pub vars : ℕ
  pub entries : Trail

-- the levels begin at least at the given one, and never fall
abbrev pub IsRisingFrom : ℕ → Trail → Type 0
IsRisingFrom low [] = Unit {0}
IsRisingFrom low (e ∷ T) = (low ≤ e.level) × IsRisingFrom e.level T

-- no variable stands twice, each is one of the variables 1 to V, and the levels never fall
pub record IsOrdered (V : ℕ) (T : Trail) : Type 0 where
  pub distinct : are_distinct (literals T) ≡ true
  pub over : IsOver V (literals T)
  pub rising : IsRisingFrom 0 T
