-- The state of a search, as the definition of a search has it, and its steps.
use Rattle.std.specs.Prelude.{◌≡◌, ℕ, ◌<◌, ◌≤◌, ◌^◌, false, Option, Some, None, List, length, take, All}
use Rattle.theory.specs.Literals.{Literal}
use Rattle.theory.specs.Truth.{Formula, IsOver}
use Rattle.theory.specs.Reading.{large, max_vars}
use Rattle.theory.specs.Trails.{literals}
use Rattle.theory.specs.Lawful.{IsLawful}
use Rattle.theory.specs.Learnable.{IsOpenBelow}
use Rattle.theory.specs.Search.{Next, ends, goes_on}
use Rattle.theory.specs.Ordered.{OrderedState, IsOrderedStep, begin}
use Rattle.kernel.specs.State.{State}
use Rattle.kernel.specs.declared.order.Order.{Order}
use Rattle.kernel.specs.declared.order.Order.TheVariants.{ByNumber}
use Rattle.cdcl.specs.declared.search.ordered.OrderedSearch.{OrderedSearch}
use Rattle.cdcl.specs.Outcome.{LinesOutcome, outcome_of}

abbrev pub search_of : OrderedSearch → OrderedState
search_of s = record { clauses = s.kernel.clauses; trail = s.kernel.trail; conflicts = s.conflicts; decided = s.decided; lines = s.lines }

-- the formula of a kernel's first clauses
abbrev pub formula_of : State → Formula
formula_of k = record { vars = k.vars; clauses = take k.first k.clauses }

-- the kernel, which propagates in this order, may go over to a cube of the formula
pub record IsReady (order : Order) (F : Formula) (k : State) : Type 0 where
  pub has_memory : k.out_of_memory ≡ false
  pub in_order : k.order ≡ order
  pub vars : k.vars ≡ F.vars
  pub few : F.vars ≤ max_vars large
  pub first : k.first ≡ length F.clauses
  pub clauses : take k.first k.clauses ≡ F.clauses

-- what a search keeps of its kernel from step to step
pub record IsSearching (order : Order) (k : State) : Type 0 where
  pub has_memory : k.out_of_memory ≡ false
  pub in_order : k.order ≡ order
  pub few : k.vars < 2 ^ 31
  pub within : k.first ≤ length k.clauses
  pub lawful : IsLawful k.clauses k.trail
  pub open_below : IsOpenBelow k.clauses k.trail
  pub clauses_over : All (IsOver k.vars) k.clauses
  pub trail_over : IsOver k.vars (literals k.trail)

-- a search goes on with the kernel, whose first clauses stay
abbrev pub GoesOn : State → State → Type 0
GoesOn old new =
    (new.vars ≡ old.vars) × (new.first ≡ old.first) × (take old.first new.clauses ≡ take old.first old.clauses) × (new.out_of_memory ≡ false)
    × (new.order ≡ old.order)

-- the search of the formula's cube Q begins
pub record Begins (F : Formula) (Q : List Literal) (s : OrderedSearch) : Type 0 where
  pub ready : IsReady ByNumber F s.kernel
  pub searching : IsSearching ByNumber s.kernel
  pub begun : search_of s ≡ begin F Q

-- what follows where a step ended with an outcome, or with none left the state
abbrev pub next_of : Option LinesOutcome → OrderedSearch → Next OrderedState
next_of (Some o) s = ends (outcome_of o)
next_of None s = goes_on (search_of s)

-- a step of the definition, and the kernel goes on
pub record IsSearchStep (budget : ℕ) (old : OrderedSearch) (r : Option LinesOutcome) (new : OrderedSearch) : Type 0 where
  pub step : IsOrderedStep old.kernel.vars budget (search_of old) (next_of r new)
  pub goes_on : GoesOn old.kernel new.kernel
