-- What the outcome of the search that is made first says.
use Rattle.std.proofs.Common.{◌≡◌, ℕ, true, false, List, [], ◌∷◌, map, Some, ap, subst, Vec, Global}
use Rattle.theory.specs.Truth.{Formula, Assignment, IsFormula}
use Rattle.theory.specs.Plans.{Plan, ordered_within}
use Rattle.theory.specs.Pure.{searched}
use Rattle.theory.specs.Beginnings.{begun_by}
use Rattle.theory.specs.Search.{Outcome, model, refuted, exhausted}
use Rattle.theory.specs.Learning.{Line}
use Rattle.theory.specs.Runs.{Runs}
use Rattle.theory.specs.Trees.{here}
use Rattle.cubes.specs.declared.tree.Node.{Node}
use Rattle.cubes.specs.declared.tree.Node.TheVariants.{Leaf}
use Rattle.cubes.specs.declared.tree.Tree.TheVariants.{Refuted}
use Rattle.cubes.specs.Result.{node_by}
use Rattle.cubes.proofs.RootResults.{root-result}
use Rattle.strategies.specs.declared.begun_formula.Begun.TheVariants.{Given}
use Rattle.strategies.specs.Begun.{IsBegunBy, IsFinal}
use Rattle.strategies.specs.Strategies.{Strategy}
use Rattle.strategies.specs.Choosing.{first_within, Decides, IsChosen, decides, goes_on, IsModelByPlan}
use Rattle.strategies.specs.Deciding.{IsFoundTree}
use Rattle.strategies.proofs.BegunLemmas.{given-begun}
use Rattle.strategies.proofs.FoundModels.{model-begun}

-- an ordered search begins with the formula itself
pub ordered-begun : (F : Formula) (B : ℕ) → IsBegunBy F (ordered_within B) Given
ordered-begun F B = given-begun F (ordered_within B) (λ y. y.hard)

pub final : (o : Outcome) → Decides o true → IsFinal o
final (model M) d = tt
final (refuted lines) d = tt
final (exhausted x) d = d

-- which plan is chosen
pub decided-chosen : (F : Formula) (s : Strategy) (B : ℕ) (o : Outcome) → first_within F s ≡ Some B → Runs (searched F) (ordered_within B) [] o → Decides o true → IsChosen F s (ordered_within B)
decided-chosen F s B o f r d = decides f r d

pub exhausted-chosen : (F : Formula) (s : Strategy) (B : ℕ) (o : Outcome) → first_within F s ≡ Some B → Runs (searched F) (ordered_within B) [] o → Decides o false → IsChosen F s s.plan
exhausted-chosen F s B o f r d = goes_on f (subst (Runs (searched F) (ordered_within B) []) d.1 r)

-- what the cube without literals comes to is the plan's
pub root-model : (F : Formula) (p : Plan) (M : Assignment) → IsFormula F → IsBegunBy F p Given → Runs (begun_by p.search F) p [] (model M) → IsModelByPlan F p M
root-model F p M formed h r = model-begun F p Given M formed h (here r)

pub root-refuted : {L : Type 0} (lines : L → List Line) (F : Formula) (p : Plan) (kept : L) (nodes : Vec (Node L) Global) → IsBegunBy F p Given → Runs (begun_by p.search F) p [] (refuted (lines kept)) → nodes.items ≡ Leaf kept ∷ []
    → IsFoundTree lines F p Given (Refuted nodes)
root-refuted lines F p kept nodes h r is = (h, root-result lines (begun_by p.search F) p (Refuted nodes) (lines kept, r, ap (map (node_by lines)) is))
