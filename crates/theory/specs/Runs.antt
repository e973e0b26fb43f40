-- The outcome of a cube by a plan: that of the plan's search, or, where the plan divides the
-- formula, that of a look. A search that is added gets one line here.
use Rattle.std.specs.Prelude.{ℕ, List}
use Rattle.theory.specs.Literals.{Literal}
use Rattle.theory.specs.Truth.{Formula}
use Rattle.theory.specs.Plans.{Search, ordered, focused, Plan}
use Rattle.theory.specs.Search.{Outcome, budget_within, max_budget, max_focused}
use Rattle.theory.specs.Ordered.{RunsOrdered}
use Rattle.theory.specs.Focused.{RunsFocused}
use Rattle.theory.specs.Looking.{Looks}
use Rattle.theory.specs.Dividing.{IsLookedAt}

abbrev pub RunsBy : Search → Formula → ℕ → List Literal → Outcome → Type 0
RunsBy ordered F B Q o = RunsOrdered F B Q o
RunsBy (focused c) F B Q o = RunsFocused c F B Q o

-- no cube has a greater budget by this search
abbrev pub most_conflicts : Search → ℕ
most_conflicts ordered = max_budget
most_conflicts (focused c) = max_focused

-- the budget of the cube Q
abbrev pub cube_budget : Plan → List Literal → ℕ
cube_budget plan Q = budget_within (most_conflicts plan.search) plan.budget Q

-- the outcome of the cube Q
pub data Runs (F : Formula) (plan : Plan) (Q : List Literal) (o : Outcome) : Type 0 where
  by_search : ¬ (IsLookedAt F plan Q) → RunsBy plan.search F plan.budget Q o → Runs F plan Q o
  by_look : IsLookedAt F plan Q → Looks F Q o → Runs F plan Q o
