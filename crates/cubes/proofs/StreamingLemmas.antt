-- The nodes that are taken on the way through a tree.
use Rattle.std.proofs.Common.{◌≡◌, List, [], ◌∷◌, ◌++◌, Option, Some, None, IfSome, sym, subst}
use Rattle.theory.specs.Literals.{Literal}
use Rattle.theory.specs.Truth.{Formula}
use Rattle.theory.specs.Plans.{Search}
use Rattle.theory.specs.Learning.{Line}
use Rattle.theory.specs.Search as search
use Rattle.theory.specs.Trees as trees
use Rattle.cdcl.specs.Outcome.{outcome_of}
use Rattle.cdcl.specs.declared.api.outcome.Outcome.{Outcome}
use Rattle.cdcl.specs.declared.api.outcome.Outcome.TheVariants as outcome
use Rattle.cubes.specs.declared.gathering.Gathering.{Gathering}
use Rattle.cubes.specs.declared.tree.Tree.TheVariants as tree
use Rattle.cubes.specs.Gathering.{nodes_of, GoesRight, GoesOnWith}
use Rattle.cubes.specs.Result.{LinesNode, LinesTree, node_of}
use Rattle.cubes.specs.Streaming.{nodes_from, nodes_in, IsCheckedNode, AreTaken}
use Rattle.cubes.proofs.GatheringLemmas.{IsKnown}
use Rattle.cubes.proofs.Walks.{by_checks}

pub if_some-map : {X : Type 0} (o : Option X) (P Q : X → Type 0) → ((x : X) → P x → Q x) → IfSome o P → IfSome o Q
if_some-map None P Q f h = tt
if_some-map (Some x) P Q f h = f x h

-- the node of a cube that was reached is checked
pub node-checked : (F : Formula) (by : Search) (Q : List Literal) (o : search.Outcome) (node : Option LinesNode) → IsKnown F (by_checks F by) Q o → nodes_in node ≡ nodes_from o
    → IfSome node (λ n. (P : List Literal) × IsCheckedNode by F P (node_of n))
node-checked F by Q o None known e = tt
node-checked F by Q (search.model M) (Some n) known e = absurd (cc)
node-checked F by Q (search.refuted lines) (Some n) known e = let same : node_of n ≡ trees.refuted_leaf lines = cc in (Q, subst (IsCheckedNode by F Q) (sym same) known)
node-checked F by Q (search.exhausted x) (Some n) known e = let same : node_of n ≡ trees.split_on x = cc in (Q, subst (IsCheckedNode by F Q) (sym same) known)

-- what was taken so far, or by the end
abbrev pub AreTakenBy : (List trees.Node → Type 0) → Option LinesTree → Gathering (List Line) → Type 0
AreTakenBy takes None h = takes (nodes_of (λ lines. lines) h)
AreTakenBy takes (Some t) h = AreTaken takes t

pub taken-on : (takes : List trees.Node → Type 0) (g h : Gathering (List Line)) (o : Outcome (List Line)) (found : Option LinesTree) → GoesOnWith (λ lines. lines) g o found h
    → takes (nodes_of (λ lines. lines) g ++ nodes_from (outcome_of o)) → AreTakenBy takes found h
taken-on takes g h (outcome.Model values) found goes t = subst (λ f. AreTakenBy takes f h) (sym goes) tt
taken-on takes g h (outcome.Exhausted x) found goes t = subst (λ f. AreTakenBy takes f h) (sym goes.0) (subst takes (sym goes.2) t)
taken-on takes g h (outcome.Refuted lines) found goes t = right found goes
  where
    right : (found : Option LinesTree) → GoesRight (λ lines. lines) g (nodes_of (λ lines. lines) g ++ trees.refuted_leaf lines ∷ []) found h → AreTakenBy takes found h
    right None k = subst takes (sym k.1) t
    right (Some (tree.Refuted all)) k = subst takes (sym k.1) t
    right (Some (tree.Model values)) k = absurd k
