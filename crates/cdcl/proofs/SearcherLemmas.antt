-- What the outcome of a cube is and says, by either search.
use Rattle.std.proofs.Common.{◌≡◌, ℕ, List, map, true, false, take, All, Result, Ok, Err, IfOk, refl, ap, sym, subst, ◌∙◌}
use Rattle.std.proofs.lemmas.List.Elements.{All-take}
use Rattle.theory.specs.Literals.{Literal, IsCube}
use Rattle.theory.specs.Truth.{Formula, Assignment, IsOver}
use Rattle.theory.specs.Pure.{searched}
use Rattle.theory.specs.Beginnings.{begun_by}
use Rattle.theory.specs.Plans.{Constants, ordered, Plan, ordered_within}
use Rattle.theory.specs.Trails.{variables}
use Rattle.theory.specs.Search.{Outcome, RunsFrom, budget_within, max_budget, max_focused}
use Rattle.theory.specs.Ordered.{IsOrderedStep}
use Rattle.theory.specs.Focused as definition
use Rattle.theory.specs.Runs.{RunsBy, most_conflicts, cube_budget, Runs, by_search}
use Rattle.theory.specs.Results.{OutcomeSays}
use Rattle.theory.proofs.searching.OutcomeLemmas.{RunsBy-says, IsLookedAt-search}
use Rattle.kernel.specs.State.{State}
use Rattle.kernel.specs.declared.order.Order.TheVariants.{ByNumber, ByPlace}
use Rattle.cdcl.specs.declared.search.ordered.OrderedSearch.{OrderedSearch}
use Rattle.cdcl.specs.declared.search.focused.FocusedSearch.{FocusedSearch}
use Rattle.cdcl.specs.declared.search.searcher.Searcher.TheVariants.{Ordered, Focused}
use Rattle.cdcl.specs.Outcome.{LinesOutcome, outcome_of}
use Rattle.cdcl.specs.Searching.{formula_of, IsReady, search_of}
use Rattle.cdcl.specs.Searching as ordered_search
use Rattle.cdcl.specs.Focusing.{state_of, RunsTo, HasSaved}
use Rattle.cdcl.specs.Focusing as focused_search
use Rattle.cdcl.specs.Solving.{Solving, IsReadyBy}
use Rattle.cdcl.proofs.Beginnings.{Begins-runs, Begins-says}
use Rattle.cdcl.proofs.FocusedSteps.{RunsTo-runs}
use Rattle.cdcl.proofs.SearchedFormulas.{formula-ready}

-- by the ordered search
runs-by_ordered : (Q : List Literal) (budget : ℕ) (s begun : OrderedSearch) (o : Outcome) → ((F : Formula) → IsReady ByNumber F s.kernel → ordered_search.Begins F Q begun)
    → RunsFrom (IsOrderedStep begun.kernel.vars budget) (search_of begun) o → (F : Formula) (B : ℕ) → IsReady ByNumber F s.kernel → budget ≡ budget_within max_budget B Q → RunsBy ordered F B Q o
runs-by_ordered Q budget s begun o begins runs F B ready is =
    Begins-runs F B Q begun o (begins F ready) (subst (λ n. RunsFrom (IsOrderedStep begun.kernel.vars n) (search_of begun) o) is runs)

pub runs-ordered : {E : Type 0} (Q : List Literal) (budget : ℕ) (s begun : OrderedSearch) (r : Result LinesOutcome E) → ((F : Formula) → IsReady ByNumber F s.kernel → ordered_search.Begins F Q begun)
    → IfOk r (λ o. RunsFrom (IsOrderedStep begun.kernel.vars budget) (search_of begun) (outcome_of o))
    → IfOk r (λ o. (F : Formula) (plan : Plan) → IsReadyBy plan F (Ordered s) → budget ≡ cube_budget plan Q → RunsBy plan.search F plan.budget Q (outcome_of o))
runs-ordered Q budget s begun (Err e) begins runs = tt
runs-ordered Q budget s begun (Ok o) begins runs = λ F plan ready is.
    subst (λ search. RunsBy search F plan.budget Q (outcome_of o)) (sym ready.0) (runs-by_ordered Q budget s begun (outcome_of o) begins runs F plan.budget ready.1 (is ∙ ap (λ s. budget_within (most_conflicts s) plan.budget Q) ready.0))

pub says-ordered : {E : Type 0} (Q : List Literal) (budget : ℕ) (s begun : OrderedSearch) (r : Result LinesOutcome E) → ((F : Formula) → IsReady ByNumber F s.kernel → ordered_search.Begins F Q begun)
    → IfOk r (λ o. RunsFrom (IsOrderedStep begun.kernel.vars budget) (search_of begun) (outcome_of o))
    → IfOk r (λ o. (F : Formula) (plan : Plan) → IsReadyBy plan F (Ordered s) → budget ≡ cube_budget plan Q → IsOver F.vars Q → OutcomeSays plan.search F Q (outcome_of o))
says-ordered Q budget s begun (Err e) begins runs = tt
says-ordered Q budget s begun (Ok o) begins runs = λ F plan ready is over.
    subst (λ search. OutcomeSays search F Q (outcome_of o)) (sym ready.0)
    (Begins-says F plan.budget Q begun (outcome_of o) (begins F ready.1) over (runs-by_ordered Q budget s begun (outcome_of o) begins runs F plan.budget ready.1 (is ∙ ap (λ s. budget_within (most_conflicts s) plan.budget Q) ready.0)))

-- the formula's clauses are over its variables, as the kernel's are
pub formula-over : (F : Formula) (k : State) → IsReady ByPlace F k → All (IsOver k.vars) k.clauses → All (IsOver F.vars) F.clauses
formula-over F k h over =
    subst (All (IsOver F.vars)) h.clauses (subst (λ V. All (IsOver V) (take k.first k.clauses)) h.vars (All-take (IsOver k.vars) k.first k.clauses over))

-- by the focused search
pub runs-focused : {E : Type 0} (Q : List Literal) (budget decided : ℕ) (s begun : FocusedSearch) (r : Result LinesOutcome E) → ((F : Formula) → IsReady ByPlace F s.kernel → focused_search.Begins F s.constants Q begun)
    → IfOk r (λ o. (saved : Assignment) → HasSaved begun saved → RunsTo begun.constants (formula_of begun.kernel) budget (state_of begun saved) (outcome_of o) decided)
    → IfOk r (λ o. (F : Formula) (B : ℕ) → IsReady ByPlace F s.kernel → budget ≡ budget_within max_focused B Q → definition.RunsFocused s.constants F B Q (outcome_of o))
runs-focused Q budget decided s begun (Err e) begins runs = tt
runs-focused Q budget decided s begun (Ok o) begins runs = λ F B ready is.
    let b = begins F ready in
    let first : Assignment = map (λ v. true) (variables F.vars) in
    subst (λ x. RunsFrom (definition.IsFocusedStep s.constants F (budget_within max_focused B Q)) x (outcome_of o)) b.begun
    (subst (λ n. RunsFrom (definition.IsFocusedStep s.constants F n) (state_of begun first) (outcome_of o)) is
    (subst (λ (G : Formula). RunsFrom (definition.IsFocusedStep s.constants G budget) (state_of begun first) (outcome_of o)) (formula-ready ByPlace F begun.kernel b.ready)
    (subst (λ (c : Constants). RunsFrom (definition.IsFocusedStep c (formula_of begun.kernel) budget) (state_of begun first) (outcome_of o)) b.constants
    (RunsTo-runs begun.constants (formula_of begun.kernel) budget (state_of begun first) (outcome_of o) decided (runs first b.saves)))))

pub runs-by_focused : {E : Type 0} (Q : List Literal) (budget : ℕ) (s : FocusedSearch) (r : Result LinesOutcome E)
    → IfOk r (λ o. (F : Formula) (B : ℕ) → IsReady ByPlace F s.kernel → budget ≡ budget_within max_focused B Q → definition.RunsFocused s.constants F B Q (outcome_of o))
    → IfOk r (λ o. (F : Formula) (plan : Plan) → IsReadyBy plan F (Focused s) → budget ≡ cube_budget plan Q → RunsBy plan.search F plan.budget Q (outcome_of o))
runs-by_focused Q budget s (Err e) runs = tt
runs-by_focused Q budget s (Ok o) runs = λ F plan ready is.
    subst (λ search. RunsBy search F plan.budget Q (outcome_of o)) (sym ready.0) (runs F plan.budget ready.1 (is ∙ ap (λ s. budget_within (most_conflicts s) plan.budget Q) ready.0))

-- what an outcome says, where the kernel is one of the formula
pub says-focused : {E : Type 0} (Q : List Literal) (budget : ℕ) (s : FocusedSearch) (r : Result LinesOutcome E) → IsCube Q → All (IsOver s.kernel.vars) s.kernel.clauses
    → IfOk r (λ o. (F : Formula) (plan : Plan) → IsReadyBy plan F (Focused s) → budget ≡ cube_budget plan Q → RunsBy plan.search F plan.budget Q (outcome_of o))
    → IfOk r (λ o. (F : Formula) (plan : Plan) → IsReadyBy plan F (Focused s) → budget ≡ cube_budget plan Q → IsOver F.vars Q → OutcomeSays plan.search F Q (outcome_of o))
says-focused Q budget s (Err e) cube over runs = tt
says-focused Q budget s (Ok o) cube over runs = λ F plan ready is within.
    RunsBy-says plan.search F plan.budget Q (outcome_of o) (formula-over F s.kernel ready.1 over) cube within (runs F plan ready is)

-- the ordered search divides no formula
pub undivided-runs : (F : Formula) (B : ℕ) (Q : List Literal) (plan : Plan) (s : Solving) (o : Outcome) → plan ≡ ordered_within B → s ≡ record { formula = begun_by plan.search F; plan = plan; out_of_memory = false }
    → RunsBy s.plan.search s.formula s.plan.budget Q o → Runs (searched F) (ordered_within B) Q o
undivided-runs F B Q plan s o is opened runs =
    by_search (λ l. IsLookedAt-search (searched F) (ordered_within B) Q l refl)
    (subst (λ (p : Plan). RunsBy p.search (begun_by p.search F) p.budget Q o) is (subst (λ (t : Solving). RunsBy t.plan.search t.formula t.plan.budget Q o) opened runs))
