-- What a strategy comes to.
use Rattle.std.specs.Prelude.{◌≡◌, List}
use Rattle.theory.specs.Truth.{Formula, Assignment}
use Rattle.theory.specs.FirstModel.{IsFound}
use Rattle.theory.specs.Learning.{Line}
use Rattle.theory.specs.Plans.{Plan}
use Rattle.theory.specs.Beginnings.{begun_by}
use Rattle.cdcl.specs.Plans.{search_from}
use Rattle.cdcl.specs.declared.api.plan.Search.{Search}
use Rattle.cubes.specs.declared.tree.Tree.{Tree}
use Rattle.cubes.specs.declared.tree.Tree.TheVariants.{Model, Refuted}
use Rattle.cubes.specs.Result.{LinesTree, IsResultBy, IsResultOf}
use Rattle.strategies.specs.declared.begun_formula.Begun.{Begun}
use Rattle.strategies.specs.Begun.{formula_in, IsBegunBy}
use Rattle.strategies.specs.declared.phases.Decided.{Decided}
use Rattle.strategies.specs.Strategies.{Strategy, search_by}
use Rattle.strategies.specs.Choosing.{IsChosen, IsModelByPlan, IsModelBy}

-- the tree has the model that the plan finds, or is the plan's result for what its search of the
-- formula begins with, where a leaf keeps what has these lines
abbrev pub IsFoundTree : {L : Type 0} → (L → List Line) → Formula → Plan → Begun → Tree L → Type 0
IsFoundTree lines F plan x (Model values) = IsModelByPlan F plan values.items
IsFoundTree lines F plan x (Refuted nodes) = IsBegunBy F plan x × IsResultBy lines (begun_by plan.search (formula_in x F)) plan (Refuted nodes)

-- it is decided by this plan
pub record IsPlannedBy {L : Type 0} (lines : L → List Line) (F : Formula) (plan : Plan) (d : Decided L) : Type 0 where
  pub plan_is : d.plan ≡ plan
  pub tree : IsFoundTree lines F plan d.begun d.tree

-- it is decided by the chosen plan
pub record IsDecidedBy {L : Type 0} (lines : L → List Line) (F : Formula) (s : Strategy) (d : Decided L) : Type 0 where
  pub chosen : IsChosen F s d.plan
  pub tree : IsFoundTree lines F d.plan d.begun d.tree

-- the chosen plan finds the model
abbrev pub IsFoundBy : Formula → Strategy → Plan → Assignment → Type 0
IsFoundBy F s plan M = IsChosen F s plan × IsModelByPlan F plan M

-- the tree has the model that is the answer, or is the refuted tree of the chosen plan, whose search
-- is this and begins so
abbrev pub IsDecidedAs : Formula → Strategy → Search → Begun → LinesTree → Type 0
IsDecidedAs F s search x (Model values) = IsModelBy s.lowers F s values.items
IsDecidedAs F s search x (Refuted nodes) = (plan : Plan) × IsChosen F s plan × (search ≡ search_from plan.search) × (IsBegunBy F plan x × IsResultOf (begun_by plan.search (formula_in x F)) plan (Refuted nodes))

-- the model is the answer, and found as the strategy's models are
abbrev pub IsModelOf : Formula → Strategy → Assignment → Type 0
IsModelOf F s M = IsModelBy s.lowers F s M × IsFound (search_by s) F M
