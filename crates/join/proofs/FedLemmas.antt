-- Nodes that come one after the other, and the lines that they give.
use Rattle.std.proofs.Common.{◌≡◌, ℕ, ◌+◌, ◌≤◌, true, false, List, [], ◌∷◌, ◌++◌, length, None, refl, ap, sym, subst, ◌∙◌, append_assoc, append-nil, arith, All}
use Rattle.theory.specs.Literals.{Literal}
use Rattle.theory.specs.Truth.{Formula}
use Rattle.theory.specs.Plans.{Search}
use Rattle.theory.specs.Pure.{pure_literals}
use Rattle.theory.specs.Beginnings.{begun, IsBeginning, proof}
use Rattle.theory.specs.Reading.{large, max_vars, IsWithinLimits}
use Rattle.theory.specs.Search.{refuted, exhausted}
use Rattle.theory.specs.Learning.{Line}
use Rattle.theory.specs.Trees.{Tree, Node, split_on, refuted_leaf, nodes_of, first_model, tree_of}
use Rattle.theory.specs.Steps.{Step}
use Rattle.theory.specs.Proofs.{tree_steps, prelude}
use Rattle.theory.specs.ProofReading.{IsStep, max_proof_bytes}
use Rattle.theory.specs.Texts.{proof_text}
use Rattle.theory.specs.Checking.{checks, accepted}
use Rattle.theory.specs.Checked.{IsCheckedResult, IsCheckedOutcome}
use Rattle.theory.proofs.trees.BegunSearches.{checks-begun}
use Rattle.theory.proofs.searching.PureVariables.{length-first_clauses, length-pure_literals}
use Rattle.theory.proofs.trees.CheckedTrees.{IsFitSplit-checked}
use Rattle.cdcl.specs.Plans.{beginning_of, first_units}
use Rattle.cdcl.specs.declared.api.plan.Search as declared
use Rattle.cdcl.specs.declared.api.plan.Search.TheVariants.{Ordered, Focused}
use Rattle.join.specs.declared.joiner.Joiner.{Joiner}
use Rattle.join.specs.Joining.{Joined, on_node, on_nodes, behind, before_nodes, after_nodes}
use Rattle.join.specs.Numbered.{AreLines, IsNode}
use Rattle.join.specs.Walking.{joined, HasJoined, IsJoining, IsNextLine}
use Rattle.join.proofs.StepLemmas.{proof-within}
use Rattle.join.proofs.TreeLemmas.{refutation-lines}
use Rattle.join.proofs.TreeSteps.{on_nodes-append, on_nodes-tree}
use Rattle.join.proofs.WalkLemmas.{on_nodes-behind}

-- one node more
pub on_nodes-last : (N : ℕ) (s : Joined) (ns : List Node) (n : Node) → on_nodes N s (ns ++ n ∷ []) ≡ on_node N (on_nodes N s ns) n
on_nodes-last N s ns n = on_nodes-append N s ns (n ∷ [])

pub on_node-behind : (N : ℕ) (S : List Step) (s : Joined) (n : Node) → on_node N (behind S s) n ≡ behind S (on_node N s n)
on_node-behind N S s n = on_nodes-behind N S s (n ∷ [])

pub behind-append : (S T : List Step) (s : Joined) → behind (S ++ T) s ≡ behind S (behind T s)
behind-append S T s = ap (λ steps. record s { steps = steps }) (append_assoc S T s.steps)

-- one more node is taken: what it gives follows the lines so far
taken-after : (F : Formula) (units : List Literal) (N : ℕ) (nodes : List Node) (n : Node) (lines : List Step) (old new : Joined) → N ≡ length F.clauses + length units → behind lines old ≡ after_nodes F units nodes → new ≡ on_node N old n
    → behind lines new ≡ after_nodes F units (nodes ++ n ∷ [])
taken-after F units N nodes n lines old new count so_far is =
    let M = length F.clauses + length units in
    ap (behind lines) (is ∙ ap (λ m. on_node m old n) count)
    ∙ sym (on_node-behind M lines old n)
    ∙ ap (λ s. on_node M s n) so_far
    ∙ sym (on_nodes-last M (before_nodes (length F.clauses) units) nodes n)

-- one more line is made
made-after : (lines : List Step) (line : Step) (old new whole : Joined) → behind lines old ≡ whole → old ≡ behind (line ∷ []) new → behind (lines ++ line ∷ []) new ≡ whole
made-after lines line old new whole so_far is = behind-append lines (line ∷ []) new ∙ ap (behind lines) (sym is) ∙ so_far

-- there are as many literals whose unit clauses come first as variables at most
pub few-first : (F : Formula) (s : declared.Search) (units : List Literal) → IsWithinLimits large F → units ≡ first_units s F → length units ≤ max_vars large
few-first F Ordered units within are = let all = ap (λ (ls : List Literal). length ls) are in let few = length-pure_literals F in let vars = within.vars in omega arith
few-first F Focused units within are = let all = ap (λ (ls : List Literal). length ls) are in omega arith

-- before the first node of a formula's tree
pub HasJoined-start : (F : Formula) (C : ℕ) (units : List Literal) (j : Joiner) → C ≡ length F.clauses → IsJoining j → j.clauses ≡ C + length units → joined j ≡ before_nodes C units → HasJoined F units [] [] j
HasJoined-start F C units j clauses keeps count begun = record {
  lawful = keeps;
  clauses = count ∙ ap (λ c. c + length units) clauses;
  so_far = begun ∙ ap (λ c. before_nodes c units) clauses;
}

-- a node that is taken
pub HasJoined-take : (F : Formula) (units : List Literal) (nodes : List Node) (n : Node) (lines : List Step) (old new : Joiner) → HasJoined F units nodes lines old → IsJoining new → new.clauses ≡ old.clauses → joined new ≡ on_node old.clauses (joined old) n
    → HasJoined F units (nodes ++ n ∷ []) lines new
HasJoined-take F units nodes n lines old new has keeps same is = record {
  lawful = keeps;
  clauses = same ∙ has.clauses;
  so_far = taken-after F units old.clauses nodes n lines (joined old) (joined new) has.clauses has.so_far is;
}

-- a line that is made
pub HasJoined-more : (F : Formula) (units : List Literal) (nodes : List Node) (lines : List Step) (line : Step) (old new : Joiner) → HasJoined F units nodes lines old → IsJoining new → new.clauses ≡ old.clauses → IsNextLine (joined old) (joined new) line true
    → HasJoined F units nodes (lines ++ line ∷ []) new
HasJoined-more F units nodes lines line old new has keeps same next = record {
  lawful = keeps;
  clauses = same ∙ has.clauses;
  so_far = made-after lines line (joined old) (joined new) (after_nodes F units nodes) has.so_far next;
}

-- and where there is none, so that a node may be taken
pub HasJoined-none : (F : Formula) (units : List Literal) (nodes : List Node) (lines : List Step) (line : Step) (old new : Joiner) → HasJoined F units nodes lines old → IsJoining new → new.clauses ≡ old.clauses → IsNextLine (joined old) (joined new) line false
    → HasJoined F units nodes lines new × ((joined new).steps ≡ [])
HasJoined-none F units nodes lines line old new has keeps same next = (
  record { lawful = keeps; clauses = same ∙ has.clauses; so_far = ap (behind lines) next.1 ∙ has.so_far },
  ap (λ (s : Joined). s.steps) next.1 ∙ next.0,
)

-- the clauses that a search begins with
pub count-first : (F : Formula) (s : declared.Search) → length F.clauses + length (first_units s F) ≡ length (begun F (beginning_of s)).clauses
count-first F Ordered = let e = length-first_clauses F in omega arith
count-first F Focused = omega arith

vars-first : (F : Formula) (s : declared.Search) → (begun F (beginning_of s)).vars ≡ F.vars
vars-first F Ordered = refl
vars-first F Focused = refl

pub few-vars : (F : Formula) (s : declared.Search) → IsWithinLimits large F → (begun F (beginning_of s)).vars ≤ max_vars large
few-vars F s within = let same = vars-first F s in let few = within.vars in omega (arith, same, few)

-- the node of a cube whose lines replay, and that of a split
pub IsNode-refuted : (F : Formula) (s : declared.Search) (search : Search) (Q : List Literal) (N : ℕ) (lines : List Line) → IsWithinLimits large F → N ≡ length F.clauses + length (first_units s F)
    → IsCheckedOutcome search (begun F (beginning_of s)) Q (refuted lines) → IsNode N (refuted_leaf lines)
IsNode-refuted F s search Q N lines within count checked =
    let are = refutation-lines (begun F (beginning_of s)) Q lines (few-vars F s within) checked in
    (are.0, subst (λ m. AreLines m m lines) (sym (count ∙ count-first F s)) are.1)

pub IsNode-split : (F : Formula) (s : declared.Search) (search : Search) (Q : List Literal) (N x : ℕ) → IsWithinLimits large F → IsCheckedOutcome search (begun F (beginning_of s)) Q (exhausted x) → IsNode N (split_on x)
IsNode-split F s search Q N x within checked =
    let fit = IsFitSplit-checked search (begun F (beginning_of s)) Q x checked in
    let low = fit.0.0 in
    let high = fit.0.1 in
    let few = few-vars F s within in
    (low, omega arith)

-- all nodes of a tree without a model give its proof
pub after-tree : (F : Formula) (s : declared.Search) (t : Tree) → first_model t ≡ None → (after_nodes F (first_units s F) (nodes_of t)).steps ≡ proof F (beginning_of s) t
after-tree F Ordered t none =
    let N = length F.clauses + length (pure_literals F) in
    ap (λ (s : Joined). s.steps) (on_nodes-tree N t (before_nodes (length F.clauses) (pure_literals F)) none)
    ∙ ap (λ n. prelude F ++ tree_steps n (n + 1) [] t) (count-first F Ordered)
after-tree F Focused t none =
    ap (λ (s : Joined). s.steps) (on_nodes-tree (length F.clauses + 0) t (before_nodes (length F.clauses) []) none)
    ∙ ap (λ n. tree_steps n (n + 1) [] t) (count-first F Focused)

-- so do the lines that were made, once no line is left of them
pub HasJoined-proof : (F : Formula) (s : declared.Search) (t : Tree) (lines : List Step) (j : Joiner) → HasJoined F (first_units s F) (nodes_of t) lines j → (joined j).steps ≡ [] → first_model t ≡ None
    → lines ≡ proof F (beginning_of s) t
HasJoined-proof F s t lines j has over none =
    sym (append-nil lines) ∙ ap (λ steps. lines ++ steps) (sym over) ∙ ap (λ (s : Joined). s.steps) has.so_far ∙ after-tree F s t none

begins-so : (F : Formula) (s : declared.Search) (search : Search) → IsBeginning search F (beginning_of s)
begins-so F Ordered search = tt
begins-so F Focused search = tt

-- the checker accepts them
pub lines-accepted : (F : Formula) (s : declared.Search) (search : Search) (t : Tree) (lines : List Step) → IsCheckedResult search (begun F (beginning_of s)) (tree_of t) → lines ≡ proof F (beginning_of s) t → checks F lines ≡ accepted
lines-accepted F s search t lines checked are = ap (checks F) are ∙ checks-begun search F (beginning_of s) t (begins-so F s search) checked.0 checked.1

-- and their numbers are within the limits
pub lines-within : (F : Formula) (s : declared.Search) (search : Search) (t : Tree) (lines : List Step) → IsWithinLimits large F → IsCheckedResult search (begun F (beginning_of s)) (tree_of t) → lines ≡ proof F (beginning_of s) t
    → length (proof_text lines) ≤ max_proof_bytes large → All IsStep lines
lines-within F s search t lines within checked are = rw are (proof-within F s t within checked.0 checked.1)
