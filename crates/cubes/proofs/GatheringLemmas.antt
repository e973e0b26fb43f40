-- Going on from a reached cube by its outcome: to a reached cube again, or to the result.
use Rattle.std.proofs.Common.{◌≡◌, ℕ, ◌<◌, ◌^◌, List, [], ◌∷◌, ◌++◌, append_assoc, map, length, Option, Some, None, refl, sym, ap, ap₂, ◌∙◌, subst, arith}
use Rattle.theory.specs.Literals.{Literal}
use Rattle.theory.specs.Truth.{Formula, IsFormula}
use Rattle.theory.specs.Plans.{Search, Plan}
use Rattle.theory.specs.Learning.{Line}
use Rattle.theory.specs.Search as search
use Rattle.theory.specs.Runs.{Runs}
use Rattle.theory.specs.Trees as trees
use Rattle.theory.specs.Trees.{here}
use Rattle.theory.specs.Results.{Solved, What, done, skipped}
use Rattle.theory.specs.Checked.{IsCheckedOutcome, IsCheckedOf, found_here}
use Rattle.theory.proofs.trees.ResultLemmas.{IsCheckedResult-IsResult, IsCheckedResult-says}
use Rattle.cdcl.specs.Outcome.{outcome_by}
use Rattle.theory.specs.Beginnings.{begun_by}
use Rattle.cdcl.specs.declared.api.outcome.Outcome.{Outcome}
use Rattle.cdcl.specs.declared.api.outcome.Outcome.TheVariants as outcome
use Rattle.cdcl.proofs.SearchedFormulas.{IsFormula-begun_by, ResultSays-begun_by}
use Rattle.cubes.specs.declared.gathering.Gathering.{Gathering}
use Rattle.cubes.specs.declared.tree.Tree.{Tree}
use Rattle.cubes.specs.declared.tree.Tree.TheVariants as tree
use Rattle.cubes.specs.CubeWalks.{IsBelow}
use Rattle.cubes.specs.Traversal.{path, behind}
use Rattle.cubes.specs.Gathering.{nodes_of, CanSplit, GoesRight, GoesOnWith}
use Rattle.cubes.specs.Result.{node_by, IsResultBy, IsCheckedResultBy, Says}
use Rattle.cubes.proofs.Walks.{Walkable, by_plan, by_checks, to_come, to_come-enter, to_come-behind, results_of, IsDone, IsDone-refuted, IsReached, IsReached-enter, IsReached-behind, IsReached-leaf, IsReached-cube, IsReached-over, ComesTo}

-- the node that a cube's result gives
abbrev node_from : What → List trees.Node
node_from (done (search.model M)) = []
node_from (done (search.refuted lines)) = trees.refuted_leaf lines ∷ []
node_from (done (search.exhausted x)) = trees.split_on x ∷ []
node_from (skipped place) = []

abbrev nodes_in : List Solved → List trees.Node
nodes_in [] = []
nodes_in (r ∷ rs) = node_from r.what ++ nodes_in rs

nodes_in-append : (rs more : List Solved) → nodes_in (rs ++ more) ≡ nodes_in rs ++ nodes_in more
nodes_in-append [] more = refl
nodes_in-append (r ∷ rs) more = ap (λ ns. node_from r.what ++ ns) (nodes_in-append rs more) ∙ sym (append_assoc (node_from r.what) (nodes_in rs) (nodes_in more))

nodes_in-tree : (Q : List Literal) (t : trees.Tree) → nodes_in (results_of Q t) ≡ trees.nodes_of t
nodes_in-tree Q (trees.satisfied M) = refl
nodes_in-tree Q (trees.refutation lines) = refl
nodes_in-tree Q (trees.split x l r) =
    ap (λ ns. trees.split_on x ∷ ns)
    (nodes_in-append (results_of (trees.false_half Q x) l) (results_of (trees.true_half Q x) r) ∙ ap₂ (λ ns ms. ns ++ ms) (nodes_in-tree (trees.false_half Q x) l) (nodes_in-tree (trees.true_half Q x) r))

-- the cube is reached, and the nodes are those before it
pub record IsGathered {L : Type 0} (lines : L → List Line) (F : Formula) (known : Walkable F) (g : Gathering L) : Type 0 where
  pub results : List Solved
  pub reached : IsReached F known [] g.at.walk results
  pub below : IsBelow [] g.at
  pub nodes : nodes_of lines g ≡ nodes_in results

pub IsGathered-start : {L : Type 0} (lines : L → List Line) (F : Formula) (known : Walkable F) (g : Gathering L) → g.at.cube ≡ [] → g.at.walk ≡ [] → nodes_of lines g ≡ [] → IsGathered lines F known g
IsGathered-start lines F known g cube walk nodes = record { results = []; reached = rw walk refl; below = rw walk cube; nodes = nodes }

-- what an outcome of the cube Q is to a walk
abbrev pub IsKnown : (F : Formula) → Walkable F → List Literal → search.Outcome → Type 0
IsKnown F known Q (search.model M) = known.IsLeafOf Q M
IsKnown F known Q (search.refuted lines) = known.IsTreeOf Q (trees.refutation lines)
IsKnown F known Q (search.exhausted x) = known.IsSplitOn Q x

pub IsKnown-Runs : (F : Formula) (plan : Plan) (Q : List Literal) (o : search.Outcome) → Runs F plan Q o → IsKnown F (by_plan F plan) Q o
IsKnown-Runs F plan Q (search.model M) runs = here runs
IsKnown-Runs F plan Q (search.refuted lines) runs = runs
IsKnown-Runs F plan Q (search.exhausted x) runs = runs

pub IsKnown-checked : (F : Formula) (by : Search) (Q : List Literal) (o : search.Outcome) → IsCheckedOutcome by F Q o → IsKnown F (by_checks F by) Q o
IsKnown-checked F by Q (search.model M) checked = found_here checked
IsKnown-checked F by Q (search.refuted lines) checked = checked
IsKnown-checked F by Q (search.exhausted x) checked = checked

pub can_go_on : {L : Type 0} (lines : L → List Line) (F : Formula) (known : Walkable F) (g : Gathering L) (o : Outcome L) → F.vars < 2 ^ 31 → IsKnown F known g.at.cube (outcome_by lines o) → CanSplit g o
can_go_on lines F known g (outcome.Model values) few is = tt
can_go_on lines F known g (outcome.Refuted kept) few is = tt
can_go_on lines F known g (outcome.Exhausted x) few is = let free = known.free g.at.cube x is in let high = free.0.1 in (free.0.0, omega arith, free.1)

-- the result, as far as it is known
abbrev pub IsKnownResult : {L : Type 0} → (L → List Line) → (F : Formula) → Walkable F → Tree L → Type 0
IsKnownResult lines F known (tree.Model values) = known.IsLeafOf [] values.items
IsKnownResult lines F known (tree.Refuted nodes) = (t : trees.Tree) × (known.IsTreeOf [] t × (trees.first_model t ≡ None)) × (map (node_by lines) nodes.items ≡ trees.nodes_of t)

pub IsResultBy-known : {L : Type 0} (lines : L → List Line) (F : Formula) (plan : Plan) (t : Tree L) → IsKnownResult lines F (by_plan F plan) t → IsResultBy lines F plan t
IsResultBy-known lines F plan (tree.Model values) result = result
IsResultBy-known lines F plan (tree.Refuted nodes) result = result

pub IsCheckedResultBy-known : {L : Type 0} (lines : L → List Line) (F : Formula) (by : Search) (t : Tree L) → IsKnownResult lines F (by_checks F by) t → IsCheckedResultBy lines by F t
IsCheckedResultBy-known lines F by (tree.Model values) result = result
IsCheckedResultBy-known lines F by (tree.Refuted nodes) result = result

-- what is checked of the outcome of a reached cube
pub IsKnown-reached : {L : Type 0} (lines : L → List Line) (F : Formula) (by : Search) (g : Gathering L) (o : Outcome L) → IsGathered lines F (by_checks F by) g → IsCheckedOf by F g.at.cube (done (outcome_by lines o))
    → IsKnown F (by_checks F by) g.at.cube (outcome_by lines o)
IsKnown-reached lines F by g o r checked =
    IsKnown-checked F by g.at.cube (outcome_by lines o)
    (checked (IsReached-cube F (by_checks F by) [] g.at.walk r.results g.at.cube r.below refl (λ k d j. absurd (omega arith)) r.reached)
    (IsReached-over F (by_checks F by) [] g.at.walk r.results g.at.cube r.below refl (λ k d j. absurd (omega arith)) r.reached))

-- what is reached, or the result
abbrev pub Gives : {L : Type 0} → (L → List Line) → (F : Formula) → Walkable F → Option (Tree L) → Gathering L → Type 0
Gives lines F known None h = IsGathered lines F known h
Gives lines F known (Some t) h = IsKnownResult lines F known t

pub gives : {L : Type 0} (lines : L → List Line) (F : Formula) (known : Walkable F) (g h : Gathering L) (o : Outcome L) (found : Option (Tree L)) → IsGathered lines F known g
    → IsKnown F known g.at.cube (outcome_by lines o) → GoesOnWith lines g o found h → Gives lines F known found h
gives lines F known g h (outcome.Model values) found r is goes =
    subst (λ t. Gives lines F known t h) (sym goes) (IsReached-leaf F known [] g.at.walk r.results values.items r.reached (rw r.below at is))
gives lines F known g h (outcome.Exhausted x) found r is goes =
    rw goes.0 (record {
      results = r.results ++ record { cube = path g.at.walk; what = done (search.exhausted x) } ∷ [];
      reached = rw goes.1.walk (IsReached-enter F known [] g.at.walk r.results x r.reached (rw r.below at is));
      below = rw goes.1.walk (goes.1.cube ∙ ap (λ Q. trees.false_half Q x) r.below);
      nodes = goes.2 ∙ ap (λ ns. ns ++ trees.split_on x ∷ []) r.nodes ∙ sym (nodes_in-append r.results (record { cube = path g.at.walk; what = done (search.exhausted x) } ∷ []));
    })
gives {L} lines F known g h (outcome.Refuted kept) found r is goes = right found goes
  where
    all : List Solved
    all = r.results ++ record { cube = path g.at.walk; what = done (search.refuted (lines kept)) } ∷ []

    nodes-all : nodes_of lines g ++ trees.refuted_leaf (lines kept) ∷ [] ≡ nodes_in all
    nodes-all = ap (λ ns. ns ++ trees.refuted_leaf (lines kept) ∷ []) r.nodes ∙ sym (nodes_in-append r.results (record { cube = path g.at.walk; what = done (search.refuted (lines kept)) } ∷ []))

    comes : ComesTo F known [] (behind tt g.at.walk) all
    comes = IsReached-behind F known [] tt g.at.walk r.results _ r.reached (IsDone-refuted F known (path g.at.walk) (lines kept) (rw r.below at is))

    right : (found : Option (Tree L)) → GoesRight lines g (nodes_of lines g ++ trees.refuted_leaf (lines kept) ∷ []) found h → Gives lines F known found h
    right None k = record {
      results = all;
      reached = subst (λ o. ComesTo F known [] o all) k.0.0 comes;
      below = k.0.1 [] r.below;
      nodes = k.1 ∙ nodes-all;
    }
    right (Some (tree.Refuted ns)) k =
        let root : IsDone F known [] all = subst (λ o. ComesTo F known [] o all) k.0 comes in
        (root.tree, (root.of_cube, root.none), k.1 ∙ nodes-all ∙ ap nodes_in root.results ∙ nodes_in-tree [] root.tree)
    right (Some (tree.Model values)) k = absurd k

-- less is still to come, where no way has more than n splits
pub fewer : {L : Type 0} (lines : L → List Line) (n : ℕ) (g h : Gathering L) (o : Outcome L) → length g.at.walk < n → GoesOnWith lines g o None h → to_come n h.at.walk < to_come n g.at.walk
fewer {L} lines n g h (outcome.Model values) short goes = absurd (let e : ◌≡◌ {A = Option (Tree L)} None (Some (tree.Model values)) = goes in cc)
fewer lines n g h (outcome.Exhausted x) short goes = rw goes.1.walk (to_come-enter n x g.at.walk short)
fewer lines n g h (outcome.Refuted kept) short goes = to_come-behind n tt g.at.walk h.at.walk (omega arith) goes.0.0

-- a formula's result is a checked one
pub IsCheckedResultBy-IsResultBy : {L : Type 0} (lines : L → List Line) (F : Formula) (plan : Plan) (t : Tree L) → IsFormula F → IsResultBy lines F plan t → IsCheckedResultBy lines plan.search F t
IsCheckedResultBy-IsResultBy lines F plan (tree.Model values) formed result = IsCheckedResult-IsResult F plan (trees.model_of values.items) formed result
IsCheckedResultBy-IsResultBy lines F plan (tree.Refuted nodes) formed result = (result.0, IsCheckedResult-IsResult F plan (trees.tree_of result.0) formed result.1, result.2)

-- what a checked result of the clauses that a plan's search begins with says of the formula
pub says-begun : {L : Type 0} (lines : L → List Line) (F : Formula) (plan : Plan) (t : Tree L) → IsFormula F → IsCheckedResultBy lines plan.search (begun_by plan.search F) t → Says plan.search F t
says-begun lines F plan (tree.Model values) formed result =
    ResultSays-begun_by F plan (trees.model_of values.items) formed (IsCheckedResult-says plan.search (begun_by plan.search F) (trees.model_of values.items) result)
says-begun lines F plan (tree.Refuted nodes) formed result =
    ResultSays-begun_by F plan (trees.tree_of result.0) formed (IsCheckedResult-says plan.search (begun_by plan.search F) (trees.tree_of result.0) result.1)

-- and so does the plan's own
pub says : {L : Type 0} (lines : L → List Line) (F : Formula) (plan : Plan) (t : Tree L) → IsFormula F → IsResultBy lines (begun_by plan.search F) plan t → Says plan.search F t
says lines F plan t formed result = says-begun lines F plan t formed (IsCheckedResultBy-IsResultBy lines (begun_by plan.search F) plan t (IsFormula-begun_by F plan formed) result)
