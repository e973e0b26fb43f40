-- Whether a formula is divided, and the solver of its cubes.
use Rattle.std.specs.Prelude.{◌≡◌, ℕ, ◌*◌, ◌<◌, ◌≤◌, [], min}
use Rattle.theory.specs.Truth.{Formula}
use Rattle.theory.specs.Plans.{Constants, ordered, focused, Plan}
use Rattle.theory.specs.Search.{exhausted, max_focused}
use Rattle.theory.specs.Focused.{begin}
use Rattle.theory.specs.Dividing.{first_conflicts, IsDivisible}
use Rattle.theory.specs.Runs.{Runs}
use Rattle.kernel.specs.declared.order.Order.TheVariants.{ByPlace}
use Rattle.lookahead.specs.Rankings.{IsRanking}
use Rattle.cdcl.specs.declared.search.focused.FocusedSearch.{FocusedSearch}
use Rattle.cdcl.specs.Searching.{IsReady}
use Rattle.cdcl.specs.Outcome.{outcome_of}
use Rattle.cdcl.specs.Focusing.{IsEquipped, RunsTo, IsOwn, Reaches, stable_at}
use Rattle.cubes.specs.declared.division.dividing.Division.{Division}
use Rattle.cubes.specs.declared.division.dividing.Division.TheVariants.{Unasked, Whole, Divided}
use Rattle.cubes.specs.declared.division.dividing.First.{First}
use Rattle.cubes.specs.declared.division.dividing.First.TheVariants.{Ended, FewDecisions, ManyDecisions}
use Rattle.cubes.specs.declared.division.dividing.DividingSearch.{DividingSearch}
use Rattle.cubes.specs.declared.division.root.Root.{Root}
use Rattle.cubes.specs.declared.division.root.Root.TheVariants.{Unknown, Searched, LookedAt}
use Rattle.cubes.specs.declared.division.cube_solver.CubeSolver.{CubeSolver}
use Rattle.cubes.specs.declared.division.cube_solver.CubeSolver.TheVariants.{Ordered, Focused}

-- what is known of a formula's division is true
abbrev pub IsDivisionOf : Formula → Plan → Division → Type 0
IsDivisionOf F plan Unasked = Unit {0}
IsDivisionOf F plan Whole = ¬ (IsDivisible F plan)
IsDivisionOf F plan (Divided ranking) = IsDivisible F plan × IsRanking F.vars F.clauses ranking

-- and it is known
abbrev pub IsKnown : Formula → Plan → Division → Type 0
IsKnown F plan Unasked = ⊥
IsKnown F plan Whole = ¬ (IsDivisible F plan)
IsKnown F plan (Divided ranking) = IsDivisible F plan × IsRanking F.vars F.clauses ranking

-- what is known of a formula's cube without literals is true
abbrev pub IsRootOf : Formula → Plan → Root → Type 0
IsRootOf F plan Unknown = Unit {0}
IsRootOf F plan (Searched x) = ¬ (IsDivisible F plan) × Runs F plan [] (exhausted x)
IsRootOf F plan (LookedAt x) = IsDivisible F plan × Runs F plan [] (exhausted x)

-- the first search has come to this, up to its conflict number t: an outcome, or the conflict, with
-- fewer than five decisions for four conflicts of stable mode, or with more
abbrev pub FirstSays : Constants → Formula → ℕ → First → FocusedSearch → Type 0
FirstSays c F t (Ended o) s = RunsTo c F t (begin c F []) (outcome_of o) s.decided × IsOwn o
FirstSays c F t FewDecisions s = Reaches c F t (begin c F []) s × (4 * s.decided < 5 * stable_at s)
FirstSays c F t ManyDecisions s = Reaches c F t (begin c F []) s × ¬ (4 * s.decided < 5 * stable_at s)

-- the search goes by the plan, and may go over to a cube of the formula
pub record IsDividing (plan : Plan) (F : Formula) (s : DividingSearch) : Type 0 where
  pub ready : IsReady ByPlace F s.search.kernel
  pub equipped : IsEquipped s.search
  pub search : plan.search ≡ focused s.search.constants
  pub divide : plan.divide ≡ s.divide
  pub few : s.divide ≤ 65536
  pub asked : min first_conflicts plan.budget ≡ s.asked
  pub within : (1 ≤ s.asked) × (s.asked ≤ max_focused)
  pub division : IsDivisionOf F plan s.division
  pub root : IsRootOf F plan s.root

-- the solver is one of this formula and this plan
abbrev pub IsSolverOf : Formula → Plan → CubeSolver → Type 0
IsSolverOf F plan (Ordered s) = (plan.search ≡ ordered) × (s.formula ≡ F) × (s.plan ≡ plan)
IsSolverOf F plan (Focused s) = IsDividing plan F s
