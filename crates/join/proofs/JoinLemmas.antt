-- Joining begins with the units that the search begins with and the nodes of the formula's tree, and
-- ends with its proof.
use Rattle.std.proofs.Common.{◌≡◌, ℕ, ◌+◌, ◌≤◌, List, [], map, length, refl, ap, sym, subst, ◌∙◌, arith}
use Rattle.std.proofs.lemmas.List.Elements.{All-nil}
use Rattle.theory.specs.Literals.{Literal}
use Rattle.theory.specs.Truth.{Formula, IsFormula}
use Rattle.theory.specs.Plans.{Constants, Plan}
use Rattle.theory.specs.Beginnings.{begun, begun_by}
use Rattle.theory.specs.Reading.{large, IsWithinLimits, max_vars}
use Rattle.theory.specs.Learning.{Line}
use Rattle.theory.specs.Steps.{Step}
use Rattle.theory.specs.ProofReading.{IsStep}
use Rattle.cdcl.specs.Plans.{search_of, beginning_of, first_units}
use Rattle.cdcl.specs.declared.api.plan.Search as declared
use Rattle.cdcl.specs.declared.api.plan.Search.TheVariants.{Ordered, Focused}
use Rattle.cdcl.proofs.SearchedFormulas.{IsFormula-begun_by}
use Rattle.cubes.specs.declared.tree.Node.{Node}
use Rattle.cubes.specs.declared.tree.Tree.TheVariants.{Model, Refuted}
use Rattle.cubes.specs.Result.{LinesTree, node_of, IsResultOf, IsCheckedResultOf}
use Rattle.cubes.proofs.GatheringLemmas.{IsCheckedResultBy-IsResultBy}
use Rattle.join.specs.declared.joiner.Stage.TheVariants.{Between}
use Rattle.join.specs.declared.proof_lines.Lines.{Lines}
use Rattle.join.specs.Joining.{Joined, on_nodes, before_nodes}
use Rattle.join.specs.Numbered.{AreChecked, AreNodes, AreNodesOf, AreUnitsOf, AreStepsOf, AreAccepted, AreWithin}
use Rattle.join.specs.Walking.{IsJoining, IsBetweenNodes, joined, lines_left}
use Rattle.join.proofs.FedLemmas.{after-tree, few-first, few-vars, count-first, lines-accepted, lines-within}
use Rattle.join.proofs.TreeLemmas.{tree-nodes}

-- a search begins as its name says, whatever its numbers are
pub begins-by-name : (F : Formula) (s : declared.Search) (c : Constants) → begun F (beginning_of s) ≡ begun_by (search_of s c) F
begins-by-name F Ordered c = refl
begins-by-name F Focused c = refl

-- a plan's own result is a checked one of its search
pub AreChecked-result : (F : Formula) (plan : Plan) (s : declared.Search) (c : Constants) (t : LinesTree) → search_of s c ≡ plan.search → IsFormula F → IsResultOf (begun_by plan.search F) plan t → AreChecked F s t
AreChecked-result F plan s c (Model values) it formed r = tt
AreChecked-result F plan s c (Refuted nodes) it formed r = (
  c,
  subst (λ (G : Formula). IsCheckedResultOf (search_of s c) G (Refuted nodes)) (sym (begins-by-name F s c ∙ ap (λ search. begun_by search F) it))
      (subst (λ search. IsCheckedResultOf search (begun_by plan.search F) (Refuted nodes)) (sym it)
      (IsCheckedResultBy-IsResultBy (λ lines. lines) (begun_by plan.search F) plan (Refuted nodes) (IsFormula-begun_by F plan formed) r)),
)

-- there are as many units as variables at most
pub few-units : (F : Formula) (s : declared.Search) (tree : LinesTree) (units : List Literal) → IsWithinLimits large F → AreUnitsOf F s tree units → length units ≤ max_vars large
few-units F s (Model values) units within are = let none = ap (λ (ls : List Literal). length ls) are in omega arith
few-units F s (Refuted ns) units within are = few-first F s units within are

-- the clauses that a search begins with are counted
first-count : (F : Formula) (s : declared.Search) (units : List Literal) (C N : ℕ) → C ≡ length F.clauses → N ≡ C + length units → units ≡ first_units s F → N ≡ length (begun F (beginning_of s)).clauses
first-count F s units C N clauses count are = let all = ap (λ (ls : List Literal). length ls) are in let first = count-first F s in omega (arith, clauses, count, all, first)

-- the nodes of a formula's result are within their limits
pub result-nodes : (F : Formula) (s : declared.Search) (C N : ℕ) (tree : LinesTree) (units : List Literal) (nodes : List (Node (List Line))) → IsWithinLimits large F → C ≡ length F.clauses → N ≡ C + length units → AreUnitsOf F s tree units
    → AreChecked F s tree → AreNodesOf tree nodes → AreNodes N (map node_of nodes)
result-nodes F s C N (Model values) units nodes within clauses count are r same = rw same tt
result-nodes F s C N (Refuted ns) units nodes within clauses count are r same =
    rw (same, first-count F s units C N clauses count are, r.1.2) (tree-nodes (begun F (beginning_of s)) [] r.1.0 (few-vars F s within) r.1.1.0)

-- the lines before the first one
left-begun : (l : Lines) (C : ℕ) (units : List Literal) (nodes : List (Node (List Line))) → joined l.joiner ≡ before_nodes C units → l.joiner.clauses ≡ C + length units → l.nodes.items ≡ nodes
    → lines_left l ≡ (on_nodes (C + length units) (before_nodes C units) (map node_of nodes)).steps
left-begun l C units nodes begun count here =
    ap (λ (s : Joined). (on_nodes l.joiner.clauses s (map node_of l.nodes.items)).steps) begun
    ∙ ap (λ N. (on_nodes N (before_nodes C units) (map node_of l.nodes.items)).steps) count
    ∙ ap (λ ns. (on_nodes (C + length units) (before_nodes C units) (map node_of ns)).steps) here

pub begun-steps : (l : Lines) (F : Formula) (s : declared.Search) (C : ℕ) (tree : LinesTree) (units : List Literal) (nodes : List (Node (List Line))) → C ≡ length F.clauses → joined l.joiner ≡ before_nodes C units → l.joiner.clauses ≡ C + length units
    → l.nodes.items ≡ nodes → AreUnitsOf F s tree units → AreNodesOf tree nodes → AreStepsOf F (beginning_of s) tree (lines_left l)
begun-steps l F s C (Model values) units nodes clauses begun count here are same = left-begun l C units nodes begun count here ∙ rw (are, same) refl
begun-steps l F s C (Refuted ns) units nodes clauses begun count here are same = λ t none of_tree.
    left-begun l C units nodes begun count here
    ∙ ap (λ c. (on_nodes (c + length units) (before_nodes c units) (map node_of nodes)).steps) clauses
    ∙ ap (λ us. (on_nodes (length F.clauses + length us) (before_nodes (length F.clauses) us) (map node_of nodes)).steps) are
    ∙ ap (λ ns. (on_nodes (length F.clauses + length (first_units s F)) (before_nodes (length F.clauses) (first_units s F)) ns).steps) (ap (map node_of) same ∙ sym of_tree)
    ∙ after-tree F s t none

-- the checker accepts the steps of a result that is no model
pub accepted-steps : (F : Formula) (s : declared.Search) (tree : LinesTree) (steps : List Step) → AreChecked F s tree → AreStepsOf F (beginning_of s) tree steps → AreAccepted F tree steps
accepted-steps F s (Model values) steps result are = tt
accepted-steps F s (Refuted nodes) steps r are = lines-accepted F s (search_of s r.0) r.1.0 steps r.1.1 (are r.1.0 r.1.1.1 (sym r.1.2))

-- their numbers are within the limits
pub within-steps : (F : Formula) (s : declared.Search) (tree : LinesTree) (steps : List Step) → IsWithinLimits large F → AreChecked F s tree → AreStepsOf F (beginning_of s) tree steps → AreWithin steps
within-steps F s (Model values) steps within result are = λ short. rw are (All-nil IsStep)
within-steps F s (Refuted nodes) steps within r are = lines-within F s (search_of s r.0) r.1.0 steps within r.1.1 (are r.1.0 r.1.1.1 (sym r.1.2))

-- what is kept before the first line
pub IsBetweenNodes-begun : (l : Lines) (F : Formula) (s : declared.Search) (C : ℕ) (tree : LinesTree) (units : List Literal) (nodes : List (Node (List Line))) → IsWithinLimits large F → C ≡ length F.clauses → IsJoining l.joiner → l.joiner.clauses ≡ C + length units
    → l.joiner.stage ≡ Between → l.nodes.items ≡ nodes → AreUnitsOf F s tree units → AreChecked F s tree → AreNodesOf tree nodes → IsBetweenNodes l
IsBetweenNodes-begun l F s C tree units nodes within clauses keeps count at here are result same = record {
  lines = record { joiner = keeps; nodes = rw here (result-nodes F s C l.joiner.clauses tree units nodes within clauses count are result same) };
  between = at;
}
