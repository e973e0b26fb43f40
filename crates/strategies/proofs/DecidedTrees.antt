-- The trees that a strategy comes to.
use Rattle.std.proofs.Common.{◌⊎◌, inl, inr, refl, ◌≡◌, ℕ, Bool, true, false, Option, None, List, Vec, Global, sym, ap, subst}
use Rattle.theory.specs.Truth.{Formula, Assignment, IsFormula, Satisfiable}
use Rattle.theory.specs.FirstModel.{IsFirst, IsFound}
use Rattle.theory.specs.Learning.{Line}
use Rattle.theory.specs.Plans.{Constants, Search, ordered, Plan}
use Rattle.theory.specs.Beginnings.{begun_by}
use Rattle.theory.specs.Checked.{IsCheckedResult}
use Rattle.theory.specs.Trees as trees
use Rattle.cdcl.specs.Plans.{search_of, search_from}
use Rattle.cdcl.specs.declared.api.plan.Search as code
use Rattle.cdcl.specs.declared.api.plan.Search.TheVariants.{Ordered, Focused}
use Rattle.cubes.specs.declared.tree.Node.{Node}
use Rattle.cubes.specs.declared.tree.Tree.TheVariants.{Model, Refuted}
use Rattle.cubes.specs.Result.{LinesNode, IsCheckedResultOf}
use Rattle.strategies.specs.declared.begun_formula.Begun.{Begun}
use Rattle.strategies.specs.Begun.{formula_in, model_in, IsBegunBy}
use Rattle.strategies.specs.Strategies.{Strategy, by_plan, search_by}
use Rattle.strategies.specs.Choosing.{first_within, IsChosen, alone, IsModelBy}
use Rattle.strategies.proofs.FoundModels.{model-begun, checked-found, checked-says, result-says, kept-kind, kept-answer}
use Rattle.strategies.specs.declared.phases.Decided.{Decided}
use Rattle.strategies.specs.Deciding.{IsFoundTree, IsPlannedBy, IsDecidedBy}

-- which search it is, of one with its numbers
pub search-is : (search : code.Search) (c : Constants) (s : Search) → search_of search c ≡ s → search ≡ search_from s
search-is Ordered c s is = ap search_from is
search-is Focused c s is = ap search_from is

-- with no search before it the strategy's plan is the chosen one
pub alone-chosen : (F : Formula) (s : Strategy) → s.first ≡ None → IsChosen F s s.plan
alone-chosen F s none = alone (ap (λ (first : Option ℕ). first_within F (record s { first = first })) none)

-- what the chosen plan decides
pub planned-decided : {L : Type 0} (lines : L → List Line) (F : Formula) (s : Strategy) (p : Plan) (d : Decided L) → IsChosen F s p → IsPlannedBy lines F p d → IsDecidedBy lines F s d
planned-decided lines F s p d chosen h = record {
  chosen = subst (IsChosen F s) (sym h.plan_is) chosen;
  tree = subst (λ (q : Plan). IsFoundTree lines F q d.begun d.tree) (sym h.plan_is) h.tree;
}

-- a refuted tree leaves no model
pub refuted-says : {L : Type 0} (lines : L → List Line) (F : Formula) (p : Plan) (x : Begun) (nodes : Vec (Node L) Global) → IsFormula F → IsFoundTree lines F p x (Refuted nodes) → ¬ (Satisfiable F)
refuted-says lines F p x nodes formed h =
    let begun = h.0 in
    let tree = h.1 in
    result-says F p begun.0 (trees.tree_of tree.0) formed begun.1.begins (subst (λ (G : Formula). trees.IsResult G p (trees.tree_of tree.0)) begun.1.formula tree.1)

-- so it is of a checked one
pub checked-refuted : (F : Formula) (p : Plan) (x : Begun) (nodes : Vec LinesNode Global) → IsFormula F → IsBegunBy F p x → IsCheckedResultOf p.search (begun_by p.search (formula_in x F)) (Refuted nodes) → ¬ (Satisfiable F)
checked-refuted F p x nodes formed h r =
    checked-says F p h.0 (trees.tree_of r.0) formed h.1.begins (subst (λ (G : Formula). IsCheckedResult p.search G (trees.tree_of r.0)) h.1.formula r.1)

-- a checked model that is kept is found as the strategy's are
pub kept-found : (F : Formula) (s : Strategy) (x : Begun) (M : Assignment) → IsFormula F → (s.lowers ≡ false) ⊎ (s.plan.search ≡ ordered) → IsBegunBy F s.plan x
    → IsCheckedResult s.plan.search (begun_by s.plan.search (formula_in x F)) (trees.model_of M) → IsFound (search_by s) F (model_in x M)
kept-found F s x M formed kept h r = subst (λ search. IsFound search F (model_in x M)) (sym (kept-kind s.lowers s.plan.search kept)) (checked-found F s.plan x M formed h r)

-- and where the plan finds it, it is the answer
pub kept-decided : (F : Formula) (s : Strategy) (x : Begun) (M : Assignment) → IsFormula F → s.first ≡ None → (s.lowers ≡ false) ⊎ (s.plan.search ≡ ordered) → IsBegunBy F s.plan x
    → trees.IsResult (begun_by s.plan.search (formula_in x F)) s.plan (trees.model_of M) → IsModelBy s.lowers F s (model_in x M)
kept-decided F s x M formed lone kept h r = (kept-answer F s s.plan (model_in x M) formed kept (alone-chosen F s lone, model-begun F s.plan x M formed h r)).0
