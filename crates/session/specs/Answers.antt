-- What the answer to a question says.
use Rattle.std.specs.Prelude.{◌≡◌, ℕ, Bool, true, List, All}
use Rattle.theory.specs.Literals.{Literal, Clause, has}
use Rattle.theory.specs.Truth.{Formula, AreTrue, Satisfies, are_true, value}
use Rattle.session.specs.declared.answer.Answer.{Answer}
use Rattle.session.specs.declared.answer.Answer.TheVariants.{Model, Unsatisfiable, Unknown}

-- some of the assumptions A, which nothing makes true that makes the clauses K true
pub record IsCore (K : List Clause) (A core : List Literal) : Type 0 where
  pub part : All (λ l. has A l ≡ true) core
  pub refuted : (m : ℕ → Bool) → are_true m K ≡ true → ¬ (AreTrue m core)

-- a model satisfies the formula and makes the assumptions true; and there is no answer only where
-- this is so
abbrev pub Says : Formula → List Literal → Type 0 → Answer → Type 0
Says F A unanswered (Model values) = Satisfies F values.items × AreTrue (value values.items) A
Says F A unanswered (Unsatisfiable core) = IsCore F.clauses A core.items
Says F A unanswered Unknown = unanswered
