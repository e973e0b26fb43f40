-- The formula that is searched: of a kernel's first clauses, it stays where a search goes on; by a
-- plan, a result says of it what it says of the formula that was read.
use Rattle.std.proofs.Common.{◌≡◌, List, [], ◌++◌, append-nil, take, ap, sym, subst, refl, ◌∙◌}
use Rattle.theory.specs.Literals.{Literal, Clause}
use Rattle.theory.specs.Truth.{Formula, IsFormula}
use Rattle.theory.specs.Plans.{Search, ordered, focused, Plan}
use Rattle.theory.specs.Trees.{Result, model_of, tree_of}
use Rattle.theory.specs.Results.{ResultSays}
use Rattle.theory.specs.Pure.{pure_literals, unit_clauses}
use Rattle.theory.specs.Beginnings.{begun, result_back, IsBeginning, beginning_by, begun_by}
use Rattle.theory.proofs.trees.BegunSearches.{IsFormula-begun, ResultSays-back}
use Rattle.kernel.specs.State.{State}
use Rattle.kernel.specs.declared.order.Order.{Order}
use Rattle.cdcl.specs.Plans.{beginning_of}
use Rattle.cdcl.specs.Searching.{formula_of, IsReady, GoesOn}
use Rattle.cdcl.specs.declared.api.plan.Search as declared
use Rattle.cdcl.specs.declared.api.plan.Search.TheVariants.{Ordered, Focused}

pub formula-ready : (order : Order) (F : Formula) (k : State) → IsReady order F k → formula_of k ≡ F
formula-ready order F k h =
    let clauses = h.clauses in
    let vars = h.vars in
    λ i. record { vars = vars i; clauses = clauses i }

pub formula-stays : (k l : State) → GoesOn k l → formula_of l ≡ formula_of k
formula-stays k l goes =
    let vars = goes.0 in
    let clauses : take l.first l.clauses ≡ take k.first k.clauses = ap (λ n. take n l.clauses) goes.1 ∙ goes.2 in
    λ i. record { vars = vars i; clauses = clauses i }

-- with the units that a search begins with too
pub begun-ordered : (F : Formula) (s : declared.Search) (units : List Literal) → s ≡ Ordered → units ≡ pure_literals F → begun F (beginning_of s) ≡ record F { clauses = F.clauses ++ unit_clauses units }
begun-ordered F s units it are = rw (it, are) refl

pub begun-focused : (F : Formula) (s : declared.Search) (units : List Literal) → s ≡ Focused → units ≡ [] → begun F (beginning_of s) ≡ record F { clauses = F.clauses ++ unit_clauses units }
begun-focused F s units it are = rw (it, are) (ap (λ (K : List Clause). record F { clauses = K }) (sym (append-nil F.clauses)))

-- the formula that a plan's search begins with, by its beginning
pub begun_by-is : (F : Formula) (plan : Plan) → begun_by plan.search F ≡ begun F (beginning_by plan.search)
begun_by-is F plan = go plan.search
  where
    go : (s : Search) → record F { clauses = (begun F (beginning_by s)).clauses } ≡ begun F (beginning_by s)
    go ordered = refl
    go (focused c) = refl

pub begins-by : (F : Formula) (s : Search) → IsBeginning s F (beginning_by s)
begins-by F ordered = tt
begins-by F (focused c) = tt

pub IsFormula-begun_by : (F : Formula) (plan : Plan) → IsFormula F → IsFormula (begun_by plan.search F)
IsFormula-begun_by F plan formed = subst IsFormula (sym (begun_by-is F plan)) (IsFormula-begun plan.search F (beginning_by plan.search) formed (begins-by F plan.search))

-- what a result says of it, it says of the formula
pub ResultSays-begun_by : (F : Formula) (plan : Plan) (r : Result) → IsFormula F → ResultSays plan.search (begun_by plan.search F) r → ResultSays plan.search F r
ResultSays-begun_by F plan r formed says =
    subst (ResultSays plan.search F) (same plan.search r)
    (ResultSays-back plan.search F (beginning_by plan.search) r formed (begins-by F plan.search) (subst (λ (G : Formula). ResultSays plan.search G r) (begun_by-is F plan) says))
  where
    same : (s : Search) (r : Result) → result_back F (beginning_by s) r ≡ r
    same ordered (model_of M) = refl
    same ordered (tree_of t) = refl
    same (focused c) (model_of M) = refl
    same (focused c) (tree_of t) = refl
