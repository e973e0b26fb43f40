-- How the search of a cube begins, and what is so whatever it comes to.
use Rattle.std.proofs.Common.{◌≡◌, ℕ, false, List, [], length, take, All, ap, sym, ◌∙◌, subst, arith}
use Rattle.std.proofs.Math.Seq.{take-length}
use Rattle.theory.specs.Literals.{Literal, Clause, IsCube}
use Rattle.theory.specs.Truth.{Formula, IsFormula, IsOver}
use Rattle.theory.specs.Trails.{literals, cube_trail}
use Rattle.theory.specs.Lawful.{IsLawful}
use Rattle.theory.specs.Results.{OutcomeSays}
use Rattle.theory.specs.Plans.{Search, ordered}
use Rattle.theory.specs.Search.{Outcome, RunsFrom, budget_of}
use Rattle.theory.specs.Ordered.{OrderedState, IsOrderedStep}
use Rattle.theory.specs.Runs.{RunsBy}
use Rattle.theory.proofs.searching.OpenTrails.{IsOpenBelow-cube_trail}
use Rattle.theory.proofs.searching.OutcomeLemmas.{RunsBy-says}
use Rattle.theory.proofs.trails.TrailLists.{literals-cube}
use Rattle.kernel.specs.State.{State}
use Rattle.kernel.specs.declared.order.Order.{Order}
use Rattle.kernel.specs.declared.order.Order.TheVariants.{ByNumber}
use Rattle.cdcl.specs.Searching.{IsReady, IsSearching, Begins, search_of}
use Rattle.cdcl.specs.declared.search.ordered.OrderedSearch.{OrderedSearch}
use Rattle.theory.proofs.literals.CubeLiterals.{IsCube-from}
use Rattle.lookahead.proofs.TrailLengths.{IsDistinctFrom-lawful}

take-whole : (n : ℕ) (K : List Clause) → n ≡ length K → take n K ≡ K
take-whole n K e = ap (λ k. take k K) e ∙ take-length K

-- the kernel goes over to the cube Q
pub record IsBegun (order : Order) (F : Formula) (Q : List Literal) (k : State) : Type 0 where
  pub ready : IsReady order F k
  pub searching : IsSearching order k
  pub clauses : k.clauses ≡ F.clauses
  pub trail : k.trail ≡ cube_trail Q

pub IsBegun-restart : (order : Order) (F : Formula) (Q : List Literal) (old k : State) → IsReady order F old → k ≡ record old { clauses = take old.first old.clauses; trail = cube_trail Q }
    → IsLawful k.clauses k.trail → IsOver k.vars (literals k.trail) → All (IsOver k.vars) k.clauses → IsBegun order F Q k
IsBegun-restart order F Q old k ready went lawful over clauses_over = record {
  ready = record {
    has_memory = memory;
    in_order = in_order;
    vars = vars;
    few = ready.few;
    first = first;
    clauses = take-whole k.first k.clauses (first ∙ sym (ap length clauses)) ∙ clauses;
  };
  searching = record {
    has_memory = memory;
    in_order = in_order;
    few = let few = ready.few in let same = vars in omega arith;
    within = let long = ap length clauses in let same = first in omega arith;
    lawful = lawful;
    open_below = rw (clauses, trail) (IsOpenBelow-cube_trail F.clauses Q);
    clauses_over = clauses_over;
    trail_over = over;
  };
  clauses = clauses;
  trail = trail;
}
  where
    memory : k.out_of_memory ≡ false
    memory = ap (λ (k : State). k.out_of_memory) went ∙ ready.has_memory

    in_order : k.order ≡ order
    in_order = ap (λ (k : State). k.order) went ∙ ready.in_order

    vars : k.vars ≡ F.vars
    vars = ap (λ (k : State). k.vars) went ∙ ready.vars

    first : k.first ≡ length F.clauses
    first = ap (λ (k : State). k.first) went ∙ ready.first

    clauses : k.clauses ≡ F.clauses
    clauses = ap (λ (k : State). k.clauses) went ∙ ready.clauses

    trail : k.trail ≡ cube_trail Q
    trail = ap (λ (k : State). k.trail) went

-- what a search that was begun runs to, is the cube's outcome
pub Begins-runs : (F : Formula) (B : ℕ) (Q : List Literal) (s : OrderedSearch) (o : Outcome) → Begins F Q s
    → RunsFrom (IsOrderedStep s.kernel.vars (budget_of B Q)) (search_of s) o → RunsBy ordered F B Q o
Begins-runs F B Q s o begins runs = rw (begins.begun, begins.ready.vars) at runs

-- what the outcome of a cube says, whose search was begun
pub IsBegun-says : (order : Order) (search : Search) (F : Formula) (B : ℕ) (Q : List Literal) (k : State) (o : Outcome) → IsBegun order F Q k → IsOver F.vars Q → RunsBy search F B Q o → OutcomeSays search F Q o
IsBegun-says order search F B Q k o b over runs =
    let all : IsFormula F = rw (b.clauses, b.ready.vars) at b.searching.clauses_over in
    let lawful : IsLawful F.clauses (cube_trail Q) = rw (b.clauses, b.trail) at b.searching.lawful in
    RunsBy-says search F B Q o all (subst IsCube (literals-cube Q) (IsCube-from (literals (cube_trail Q)) (IsDistinctFrom-lawful F.clauses [] (cube_trail Q) lawful))) over runs

pub Begins-says : (F : Formula) (B : ℕ) (Q : List Literal) (s : OrderedSearch) (o : Outcome) → Begins F Q s → IsOver F.vars Q → RunsBy ordered F B Q o → OutcomeSays ordered F Q o
Begins-says F B Q s o begins over runs = IsBegun-says ByNumber ordered F B Q s.kernel o (record {
  ready = begins.ready;
  searching = begins.searching;
  clauses = ap (λ (t : OrderedState). t.clauses) begins.begun;
  trail = ap (λ (t : OrderedState). t.trail) begins.begun;
}) over runs
