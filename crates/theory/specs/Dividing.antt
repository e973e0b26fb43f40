-- Which formulas are divided by lookahead before their cubes are searched, and into how many cubes.
-- Source: decisions for each conflict as the sign by which formulas that gain from a division are
-- told is this project's own, as measured.
use Rattle.std.specs.Prelude.{ℕ, ◌+◌, ◌*◌, ◌^◌, ◌≤◌, ◌<◌, min, List, [], length}
use Rattle.theory.specs.Literals.{Literal}
use Rattle.theory.specs.Truth.{Formula}
use Rattle.theory.specs.Plans.{Constants, Search, ordered, focused, Plan}
use Rattle.theory.specs.Search.{Next, ends, goes_on, exhausted}
use Rattle.theory.specs.Focused.{FocusedState, IsFocusedStep, begin, if_stable}

-- by such steps the state s leads to the state t
pub data LeadsTo {State : Type 0} (IsStep : State → Next State → Type 0) : State → State → Type 0 where
  stays : {s : State} → LeadsTo IsStep s s
  moves : {s t u : State} → IsStep s (goes_on t) → LeadsTo IsStep t u → LeadsTo IsStep s u

-- the search of the cube without literals, with t conflicts, uses them up, and in stable mode
-- decides fewer than five literals for four conflicts; so it is where each half of a cube is much
-- easier than the whole
pub record HasFewDecisions (c : Constants) (F : Formula) (t : ℕ) : Type 0 where
  pub state : FocusedState
  pub var : ℕ
  pub leads : LeadsTo (IsFocusedStep c F t) (begin c F []) state
  pub last : IsFocusedStep c F t state (ends (exhausted var))
  pub few : 4 * state.decisions < 5 * (state.stable_conflicts + if_stable state)

-- after so many conflicts the first search is asked
abbrev pub first_conflicts : ℕ
first_conflicts = 20000

abbrev pub IsDivisibleBy : Search → Formula → ℕ → Type 0
IsDivisibleBy ordered F t = ⊥
IsDivisibleBy (focused c) F t = HasFewDecisions c F t

-- the plan wants a division, and the formula is one to be divided
pub record IsDivisible (F : Formula) (plan : Plan) : Type 0 where
  pub wanted : 2 ≤ plan.divide
  pub by : IsDivisibleBy plan.search F (min first_conflicts plan.budget)

-- a cube is looked at while there are fewer cubes of its size than are wanted
pub record IsLookedAt (F : Formula) (plan : Plan) (Q : List Literal) : Type 0 where
  pub few : 2 ^ length Q < plan.divide
  pub divisible : IsDivisible F plan
