-- What the outcome of a cube is and says, by a search that may divide the formula.
use Rattle.std.proofs.Common.{◌≡◌, ◌≢◌, ℕ, ◌≤◌, min, List, [], map, true, Result, Ok, Err, IfOk, OnOk, ap, sym, subst, ◌∙◌, arith}
use Rattle.theory.specs.Literals.{Literal}
use Rattle.theory.specs.Truth.{Formula, Assignment, IsOver}
use Rattle.theory.specs.Plans.{Constants, focused, Plan}
use Rattle.theory.specs.Trails.{variables}
use Rattle.theory.specs.Learning.{Line}
use Rattle.theory.specs.Search.{Outcome, exhausted, budget_within, max_focused}
use Rattle.theory.specs.Dividing.{first_conflicts, IsDivisible}
use Rattle.theory.specs.Focused as definition
use Rattle.theory.specs.Runs.{RunsBy, most_conflicts, cube_budget, Runs, by_search}
use Rattle.theory.specs.Results.{OutcomeSays}
use Rattle.theory.proofs.searching.OutcomeLemmas.{IsLookedAt-search}
use Rattle.kernel.specs.declared.order.Order.TheVariants.{ByPlace}
use Rattle.cdcl.specs.declared.search.focused.FocusedSearch.{FocusedSearch}
use Rattle.cdcl.specs.declared.search.focused.Stop.{Stop}
use Rattle.cdcl.specs.declared.api.outcome.Outcome as outcomes
use Rattle.cdcl.specs.Outcome.{LinesOutcome, outcome_of, outcome_by}
use Rattle.cdcl.specs.Searching.{formula_of, IsReady}
use Rattle.cdcl.specs.Focusing.{state_of, RunsTo, Reaches, Stops, HasSaved, IsKept}
use Rattle.cdcl.specs.Focusing as focused_search
use Rattle.cdcl.specs.Solving.{Solving}
use Rattle.cdcl.proofs.SearchedFormulas.{formula-ready}
use Rattle.cdcl.proofs.LongerSearches.{RunsTo-longer, Reaches-longer}
use Rattle.cubes.specs.declared.division.dividing.DividingSearch.{DividingSearch}
use Rattle.cubes.specs.declared.division.cube_solver.CubeSolver.TheVariants.{Ordered}
use Rattle.cubes.specs.Division.{IsDividing, IsSolverOf}

-- the first search is asked within the budget of the cube without literals
pub within-budget : (B t : ℕ) → min first_conflicts B ≡ t → t ≤ budget_within max_focused B []
within-budget B t asked = omega (arith, asked)

-- the search of a plan
pub search-runs : {E : Type 0} (Q : List Literal) (budget : ℕ) (s : DividingSearch) (r : Result LinesOutcome E)
    → IfOk r (λ o. (F : Formula) (B : ℕ) → IsReady ByPlace F s.search.kernel → budget ≡ budget_within max_focused B Q → definition.RunsFocused s.search.constants F B Q (outcome_of o))
    → IfOk r (λ o. (F : Formula) (plan : Plan) → IsDividing plan F s → budget ≡ cube_budget plan Q → RunsBy plan.search F plan.budget Q (outcome_of o))
search-runs Q budget s (Err e) runs = tt
search-runs Q budget s (Ok o) runs = λ F plan d is.
    subst (λ search. RunsBy search F plan.budget Q (outcome_of o)) (sym d.search) (runs F plan.budget d.ready (is ∙ ap (λ s. budget_within (most_conflicts s) plan.budget Q) d.search))

-- the first search, of the cube without literals
pub first-stops : (F : Formula) (c : Constants) (t : ℕ) (begun s : FocusedSearch) (stop : Stop) → focused_search.Begins F c [] begun
    → ((saved : Assignment) → HasSaved begun saved → Stops begun.constants (formula_of begun.kernel) t (state_of begun saved) stop s) → Stops c F t (definition.begin c F []) stop s
first-stops F c t begun s stop b stops =
    let first : Assignment = map (λ v. true) (variables F.vars) in
    subst (λ x. Stops c F t x stop s) b.begun
    (subst (λ (G : Formula). Stops c G t (state_of begun first) stop s) (formula-ready ByPlace F begun.kernel b.ready)
    (subst (λ (d : Constants). Stops d (formula_of begun.kernel) t (state_of begun first) stop s) b.constants (stops first b.saves)))

-- what it comes to is the outcome by the plan, where that doesn't divide the formula
pub first-runs : (F : Formula) (plan : Plan) (c : Constants) (t budget count : ℕ) (o : Outcome) → plan.search ≡ focused c → min first_conflicts plan.budget ≡ t → budget ≡ cube_budget plan [] → 1 ≤ t
    → ¬ (IsDivisible F plan) → RunsTo c F t (definition.begin c F []) o count → ((x : ℕ) → o ≢ exhausted x) → Runs F plan [] o
first-runs F plan c t budget count o search asked is some whole runs own =
    by_search (λ l. whole l.divisible)
    (subst (λ s. RunsBy s F plan.budget [] o) (sym search)
    (RunsTo-longer c F t (budget_within max_focused plan.budget []) count (definition.begin c F []) o (within-budget plan.budget t asked) some own runs))

pub first-goes-on : (F : Formula) (plan : Plan) (c : Constants) (t budget count : ℕ) (s : FocusedSearch) (o : Outcome) → plan.search ≡ focused c → min first_conflicts plan.budget ≡ t → budget ≡ cube_budget plan [] → 1 ≤ t
    → ¬ (IsDivisible F plan) → Reaches c F t (definition.begin c F []) s → ((saved : Assignment) → HasSaved s saved → RunsTo c F budget (state_of s saved) o count) → Runs F plan [] o
first-goes-on F plan c t budget count s o search asked is some whole reached runs =
    by_search (λ l. whole l.divisible)
    (subst (λ s. RunsBy s F plan.budget [] o) (sym search)
    (Reaches-longer c F t (budget_within max_focused plan.budget []) count (definition.begin c F []) s o (within-budget plan.budget t asked) some reached
    (subst (λ n. (saved : Assignment) → HasSaved s saved → RunsTo c F n (state_of s saved) o count) (is ∙ ap (λ x. budget_within (most_conflicts x) plan.budget []) search) runs)))

-- the search goes on to the next cube
pub dividing-kept : {X E : Type 0} (r : Result X E) (old s : DividingSearch) (t : FocusedSearch) → ((F : Formula) (plan : Plan) → IsDividing plan F old → IsDividing plan F s) → OnOk r (IsKept s.search t)
    → OnOk r ((F : Formula) (plan : Plan) → IsDividing plan F old → IsDividing plan F (record s { search = t }))
dividing-kept (Err e) old s t before kept = tt
dividing-kept (Ok x) old s t before kept = λ F plan d.
    let e = before F plan d in record {
      ready = kept.0 F e.ready;
      equipped = kept.1;
      search = e.search ∙ ap focused (sym kept.2);
      divide = e.divide;
      few = e.few;
      asked = e.asked;
      within = e.within;
      division = e.division;
      root = e.root;
    }

-- and goes on so in two steps
pub kept-then : {X E : Type 0} (r : Result X E) (old s t : DividingSearch) → ((F : Formula) (plan : Plan) → IsDividing plan F old → IsDividing plan F s)
    → OnOk r ((F : Formula) (plan : Plan) → IsDividing plan F s → IsDividing plan F t) → OnOk r ((F : Formula) (plan : Plan) → IsDividing plan F old → IsDividing plan F t)
kept-then (Err e) old s t before kept = tt
kept-then (Ok x) old s t before kept = λ F plan d. kept F plan (before F plan d)

-- the ordered search divides no formula
pub ordered-runs : {L E : Type 0} (lines : L → List Line) (plan : Plan) (Q : List Literal) (s : Solving) (r : Result (outcomes.Outcome L) E) → IfOk r (λ o. RunsBy s.plan.search s.formula s.plan.budget Q (outcome_by lines o))
    → IfOk r (λ o. (F : Formula) → IsSolverOf F plan (Ordered s) → Runs F plan Q (outcome_by lines o))
ordered-runs lines plan Q s (Err e) runs = tt
ordered-runs lines plan Q s (Ok o) runs = λ F is. by_search (λ l. IsLookedAt-search F plan Q l is.0) (rw (is.1, is.2) at runs)

pub ordered-says : {L E : Type 0} (lines : L → List Line) (plan : Plan) (Q : List Literal) (s : Solving) (r : Result (outcomes.Outcome L) E) → IfOk r (λ o. OutcomeSays s.plan.search s.formula Q (outcome_by lines o))
    → IfOk r (λ o. (F : Formula) → IsSolverOf F plan (Ordered s) → IsOver F.vars Q → OutcomeSays plan.search F Q (outcome_by lines o))
ordered-says lines plan Q s (Err e) says = tt
ordered-says lines plan Q s (Ok o) says = λ F is over. rw (is.1, is.2) at says
