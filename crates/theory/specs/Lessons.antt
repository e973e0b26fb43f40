-- What a conflict teaches the focused search: a line, and what its choices go by. Source: the
-- variables of a learnt clause's reasons count as seen too (Liang, Ganesh, Poupart and Czarnecki,
-- SAT 2016).
use Rattle.std.specs.Prelude.{ℕ, List, [], ◌++◌}
use Rattle.theory.specs.Literals.{Clause}
use Rattle.theory.specs.Trails.{Trail}
use Rattle.theory.specs.Learning.{Line, learn_removing}
use Rattle.theory.specs.Removing.{first_walk, removable}
use Rattle.theory.specs.Units.{reasons_against}
use Rattle.theory.specs.Restarts.{glue}

-- the line, its glue, the numbers of the clauses that were resolved at the current level, and of
-- those whose variables are seen
pub record Lesson : Type 0 where
  pub line : Line
  pub glue : ℕ
  pub resolved : List ℕ
  pub seen : List ℕ

-- seen is what was resolved, and the reasons against the line's literals
abbrev pub lesson_from : Clause × List ℕ → Line → Trail → Lesson
lesson_from first line T = record { line = line; glue = glue T line.clause; resolved = first.1; seen = first.1 ++ reasons_against T line.clause }

-- of the conflict clause of number n, above level 0
abbrev pub lesson_of : List Clause → Trail → ℕ → Lesson
lesson_of K T n = let first = first_walk K T n in lesson_from first (learn_removing (removable K T first.0 T []) K T n) T
