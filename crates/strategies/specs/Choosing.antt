-- Which plan decides a formula by a strategy, and which model is the answer.
use Rattle.std.specs.Prelude.{◌≡◌, ℕ, ◌+◌, ◌/◌, min, max, Bool, true, false, [], length, sum_by, Option, Some, None, option_map}
use Rattle.theory.specs.Truth.{Formula, Assignment}
use Rattle.theory.specs.Plans.{Plan, ordered_within}
use Rattle.theory.specs.Pure.{searched}
use Rattle.theory.specs.Beginnings.{Beginning, begun, model_back, Begins}
use Rattle.theory.specs.Search.{Outcome, model, refuted, exhausted}
use Rattle.theory.specs.Runs.{Runs}
use Rattle.theory.specs.FirstModel.{IsFirst}
use Rattle.theory.specs.Trees.{model_of, IsResult}
use Rattle.strategies.specs.Strategies.{Strategy}

-- the outcome of the cube without literals decides the formula
abbrev pub IsDecision : Outcome → Type 0
IsDecision (model M) = Unit {0}
IsDecision (refuted lines) = Unit {0}
IsDecision (exhausted x) = ⊥

-- whether it does
abbrev pub Decides : Outcome → Bool → Type 0
Decides o true = IsDecision o
Decides o false = (x : ℕ) × (o ≡ exhausted x)

-- the literals of all clauses
abbrev pub literal_count : Formula → ℕ
literal_count F = sum_by length F.clauses

-- how many conflicts the search of the formula has that is made first, if there is one: fewer in a
-- large formula, where each takes longer
abbrev pub first_within : Formula → Strategy → Option ℕ
first_within F s = option_map (λ B. max 1 (min B (100000000 / (literal_count F + 1)))) s.first

-- the plan that decides the formula
pub data IsChosen (F : Formula) (s : Strategy) : Plan → Type 0 where
  alone : first_within F s ≡ None → IsChosen F s s.plan
  decides : {B : ℕ} {o : Outcome} → first_within F s ≡ Some B → Runs (searched F) (ordered_within B) [] o → IsDecision o → IsChosen F s (ordered_within B)
  goes_on : {B x : ℕ} → first_within F s ≡ Some B → Runs (searched F) (ordered_within B) [] (exhausted x) → IsChosen F s s.plan

-- the model is the one that the plan finds: that of what its search begins with, made the formula's
pub record IsModelByPlan (F : Formula) (plan : Plan) (M : Assignment) : Type 0 where
  pub beginning : Beginning
  pub begins : Begins plan F beginning
  pub model : Assignment
  pub is_result : IsResult (begun F beginning) plan (model_of model)
  pub is : M ≡ model_back F beginning model

-- the model is the answer: the first one, or the one that the chosen plan finds
abbrev pub IsModelBy : Bool → Formula → Strategy → Assignment → Type 0
IsModelBy true F s M = IsFirst F M
IsModelBy false F s M = (plan : Plan) × IsChosen F s plan × IsModelByPlan F plan M
