-- Answers in variables, by answers in their numbers.
use Rattle.std.specs.Prelude.{◌≡◌, ℕ}
use Rattle.theory.specs.Truth.{IsOver}
use Rattle.session.specs.declared.answer.Answer.{Answer}
use Rattle.session.specs.declared.answer.Answer.TheVariants.{Model, Unsatisfiable, Unknown}
use Rattle.session.specs.Naming.{Naming, all_outward, values_outward}

-- if the answer has a core, it is over the numbers 1 to V
abbrev pub IsOverIfCore : ℕ → Answer → Type 0
IsOverIfCore V (Model values) = Unit {0}
IsOverIfCore V (Unsatisfiable core) = IsOver V core.items
IsOverIfCore V Unknown = Unit {0}

-- the second answer says in variables what the first one says in numbers
abbrev pub IsOutward : Naming → Answer → Answer → Type 0
IsOutward N (Model values) (Model named) = named.items ≡ values_outward N values.items
IsOutward N (Model values) (Unsatisfiable core) = ⊥
IsOutward N (Model values) Unknown = ⊥
IsOutward N (Unsatisfiable core) (Model values) = ⊥
IsOutward N (Unsatisfiable core) (Unsatisfiable named) = named.items ≡ all_outward N core.items
IsOutward N (Unsatisfiable core) Unknown = ⊥
IsOutward N Unknown (Model values) = ⊥
IsOutward N Unknown (Unsatisfiable core) = ⊥
IsOutward N Unknown Unknown = Unit {0}
