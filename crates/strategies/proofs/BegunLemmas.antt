-- How a plan's search begins, with the formula itself or with what a simplification leaves.
use Rattle.std.proofs.Common.{◌≡◌, ℕ, ◌≤◌, min, true, false, List, [], ◌++◌, length, refl, sym, ap, ap₂, ◌∙◌, subst, arith}
use Rattle.theory.specs.Truth.{Formula, Assignment}
use Rattle.theory.specs.Plans.{Constants, Search, ordered, focused, Plan}
use Rattle.theory.specs.Search as search
use Rattle.theory.specs.Search.{exhausted}
use Rattle.theory.specs.Focused.{RunsFocused}
use Rattle.theory.specs.Runs.{RunsBy, Runs}
use Rattle.theory.specs.Trees.{Tree}
use Rattle.theory.specs.Steps.{Step}
use Rattle.theory.specs.Proofs.{lines_of}
use Rattle.theory.specs.Simplifying.{Change, simplified, simplified_formula, simplification, extended_model}
use Rattle.theory.specs.Trying.{IsSimplification}
use Rattle.theory.specs.Beginnings.{by_changes, begun_by, beginning_by, model_back, first_tried, IsHard, IsToSimplify, directly, simpler}
use Rattle.theory.proofs.searching.FocusedSplits.{RunsFocused-exhausted}
use Rattle.theory.proofs.searching.MoreConflicts.{soon-decided}
use Rattle.cdcl.specs.Solving.{Solving}
use Rattle.cdcl.proofs.SearchedFormulas.{begun_by-is}
use Rattle.cdcl.specs.Plans.{constants_from}
use Rattle.simplify.specs.Made.{Made, steps_from, IsMadeBy}
use Rattle.strategies.specs.Begun.{IsBegunBy, IsFinal}
use Rattle.strategies.specs.declared.begun_formula.Begun.TheVariants.{Given, Simplified}

-- nothing is to be done to a model of the formula itself
kept-model : (s : Search) (F : Formula) (M : Assignment) → M ≡ model_back F (beginning_by s) M
kept-model ordered F M = refl
kept-model (focused c) F M = refl

-- with the formula itself, where it isn't simplified
pub given-begun : (F : Formula) (plan : Plan) → ¬ (IsToSimplify F plan) → IsBegunBy F plan Given
given-begun F plan n = (
  beginning_by plan.search,
  record {
    begins = directly n refl;
    formula = begun_by-is F plan;
    vars = tt;
    lines = λ t. refl;
    back = λ M long. kept-model plan.search F M;
  },
)

-- with what a simplification leaves, where it is
same-proof : (F : Formula) (cs : List Change) (G : Formula) (before : List Step) (t : Tree) → G ≡ simplified_formula F (simplified F cs) → before ≡ simplification F cs
    → simplification F cs ++ lines_of (simplified_formula F (simplified F cs)).clauses t ≡ before ++ ([] ++ lines_of G.clauses t)
same-proof F cs G before t e f = ap₂ (λ (steps : List Step) (H : Formula). steps ++ lines_of H.clauses t) (sym f) (sym e)

pub simplified-begun : (F : Formula) (plan : Plan) (c : Constants) (cs : List Change) (m : Made) → plan.search ≡ focused c → IsToSimplify F plan → IsSimplification F cs → IsMadeBy F cs m
    → IsBegunBy F plan (Simplified m)
simplified-begun F plan c cs m is y s made = (
  by_changes cs,
  record {
    begins = simpler y s;
    formula = rw is made.formula;
    vars = ap (λ (G : Formula). G.vars) (sym made.formula);
    lines = λ t. rw is (same-proof F cs m.formula (steps_from (length F.clauses) m.lines) t made.formula made.lines);
    back = λ M long. ap (λ n. extended_model n m.eliminated M) long ∙ made.extends M long;
  },
)

-- a plan that doesn't want it, or is no focused one, simplifies nothing
pub unwanted : (F : Formula) (plan : Plan) → ¬ ((plan.simplify ≡ true) × (plan.search ≡ focused (constants_from plan.search))) → ¬ (IsToSimplify F plan)
unwanted F plan never y = never (y.wanted, go plan.search y.hard)
  where
    go : (s : Search) → IsHard s F (min first_tried plan.budget) → s ≡ focused (constants_from s)
    go ordered h = absurd h
    go (focused k) h = refl

-- the first search is the focused one of the formula itself, undivided
pub first-runs : (F : Formula) (plan first : Plan) (n : ℕ) (s : Solving) (o : search.Outcome) → first ≡ record { search = focused (constants_from plan.search); budget = n; divide = 0; simplify = true } → n ≡ min first_tried plan.budget
    → s ≡ record { formula = begun_by first.search F; plan = first; out_of_memory = false } → RunsBy s.plan.search s.formula s.plan.budget [] o → RunsFocused (constants_from plan.search) F (min first_tried plan.budget) [] o
first-runs F plan first n s o is few whole runs =
    let c = constants_from plan.search in
    let by_first = subst (λ (t : Solving). RunsBy t.plan.search t.formula t.plan.budget [] o) whole runs in
    subst (λ k. RunsFocused c F k [] o) few (subst (λ (p : Plan). RunsBy p.search (begun_by p.search F) p.budget [] o) is by_first)

-- the first search used up its conflicts
pub hard : (F : Formula) (plan : Plan) (c : Constants) (x : ℕ) → plan.search ≡ focused c → plan.simplify ≡ true → RunsFocused c F (min first_tried plan.budget) [] (exhausted x) → IsToSimplify F plan × (1 ≤ F.vars)
hard F plan c x is wanted runs =
    let var = (RunsFocused-exhausted c F (min first_tried plan.budget) [] x runs).0 in
    let low = var.0 in
    let high = var.1 in
    (record { wanted = wanted; hard = subst (λ s. IsHard s F (min first_tried plan.budget)) (sym is) (x, runs) }, omega arith)

final-decides : (o : search.Outcome) → IsFinal o → (x : ℕ) → ¬ (o ≡ exhausted x)
final-decides (search.model M) h x e = cc
final-decides (search.refuted lines) h x e = cc
final-decides (search.exhausted y) h x e = h

-- the first search decided the formula
pub decided : (F : Formula) (plan : Plan) (c : Constants) (o : search.Outcome) → plan.search ≡ focused c → 1 ≤ plan.budget → IsFinal o → RunsFocused c F (min first_tried plan.budget) [] o
    → IsBegunBy F plan Given × Runs (begun_by plan.search F) plan [] o × IsFinal o
decided F plan c o is some final runs =
    let soon = soon-decided F plan c o is some (final-decides o final) runs in
    (given-begun F plan soon.1, subst (λ (s : Search). Runs (begun_by s F) plan [] o) (sym is) soon.0, final)
