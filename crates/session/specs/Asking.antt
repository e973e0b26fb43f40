-- What a search keeps while it answers a question.
use Rattle.std.specs.Prelude.{◌≡◌, ℕ, ◌<◌, ◌≤◌, true, List, length, take, Option, None, All, Some}
use Rattle.theory.specs.Literals.{Literal, has}
use Rattle.theory.specs.Truth.{Formula, IsOver}
use Rattle.theory.specs.Trails.{Entry, Trail, literals, current_level, up_to}
use Rattle.theory.specs.Lawful.{IsLawful, cube_of}
use Rattle.theory.specs.Learnable.{IsOpenBelow}
use Rattle.session.specs.declared.search.Search.{Search}
use Rattle.session.specs.declared.answer.Answer.{Answer}
use Rattle.session.specs.Loading.{IsFit, IsMeant}
use Rattle.session.specs.Answers.{Says}

-- where the entry is decided at a level up to the base, it is one of the assumptions A
abbrev pub IsOfAssumptions : List Literal → ℕ → Entry → Type 0
IsOfAssumptions A base e = e.reason ≡ None → 1 ≤ e.level → e.level ≤ base → has A e.lit ≡ true

-- the first so many of the assumptions A are true at levels up to the base, where all that is decided
-- is one of A; and the trail goes beyond only where all of them are
pub record IsAssumed (A : List Literal) (assumed base : ℕ) (T : Trail) : Type 0 where
  pub taken : (l : Literal) → has (take assumed A) l ≡ true → has (literals (up_to T base)) l ≡ true
  pub decided : All (IsOfAssumptions A base) T
  pub within : assumed < length A → current_level T ≤ base

-- the search is at a question of the formula F under the assumptions A
pub record IsAsked (F : Formula) (A : List Literal) (s : Search) : Type 0 where
  pub fit : IsFit s
  pub meant : IsMeant F.clauses F.clauses s.kernel.clauses s.facts
  pub vars : F.vars ≤ s.kernel.vars
  pub formula : All (IsOver F.vars) F.clauses
  pub assumptions : IsOver F.vars A
  pub clauses : All (IsOver s.kernel.vars) s.kernel.clauses
  pub lawful : IsLawful s.kernel.clauses s.kernel.trail
  pub trail : IsOver s.kernel.vars (literals s.kernel.trail)
  pub open_below : IsOpenBelow s.kernel.clauses s.kernel.trail
  pub cube : cube_of s.kernel.trail ≡ s.facts
  pub assumed : IsAssumed A s.assumed s.base s.kernel.trail

-- a step has come to an answer, or goes on
abbrev pub SaysIfAny : Formula → List Literal → Type 0 → Option Answer → Type 0
SaysIfAny F A unanswered None = Unit {0}
SaysIfAny F A unanswered (Some answer) = Says F A unanswered answer
