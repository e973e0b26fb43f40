-- Nodes that are gone past, as if they were taken and all their lines were made.
use Rattle.std.proofs.Common.{◌≡◌, ℕ, ◌+◌, ◌-◌, ◌≤◌, List, [], ◌∷◌, ◌++◌, map, length, Option, Some, None, refl, ap, sym, subst, ◌∙◌, append-nil, append_assoc, arith, All}
use Rattle.std.proofs.lemmas.List.{map-append}
use Rattle.std.proofs.lemmas.List.Elements.{All-cons, All-weaker}
use Rattle.theory.specs.Literals.{IsVariable}
use Rattle.theory.specs.Reading.{large, max_vars}
use Rattle.theory.specs.Learning.{Line}
use Rattle.theory.specs.Steps.{Step}
use Rattle.theory.specs.Trees.{Node, split_on, refuted_leaf}
use Rattle.theory.specs.Proofs.{refuted_steps, split_steps}
use Rattle.theory.specs.ProofReading.{max_number}
use Rattle.cubes.specs.declared.traversal.Split.{Split}
use Rattle.cubes.specs.Result.{LinesNode, node_of}
use Rattle.cubes.specs.Traversal.{path}
use Rattle.join.specs.declared.joiner.Joiner.{Joiner}
use Rattle.join.specs.declared.joiner.Stage.TheVariants.{Between}
use Rattle.join.specs.declared.proof_lines.Lines.{Lines}
use Rattle.join.specs.Joining.{Joined, bare, behind, climb, on_node, on_nodes}
use Rattle.join.specs.Numbered.{AreNodes, IsBefore, IsHalf}
use Rattle.join.specs.Walking.{joined, lines_left, IsAtStage, IsBetweenNodes, IsJoining, IsStanding}
use Rattle.join.proofs.FedLemmas.{on_nodes-last}
use Rattle.join.proofs.MadeLemmas.{joined-at}
use Rattle.join.proofs.TreeSteps.{on_nodes-append}
use Rattle.join.proofs.WalkLemmas.{climb-behind, on_nodes-behind}

-- where a climb leads is the same with any lines before
pub climb-bare : (hs : List (Split ℕ)) (n : ℕ) (S : List Step) → bare (climb hs n S) ≡ bare (climb hs n [])
climb-bare hs n S = ap (λ T. bare (climb hs n T)) (sym (append-nil S)) ∙ ap bare (climb-behind hs n S [])

-- past a split whose halves are both done
pub climb-both : (n x left : ℕ) (old new : List (Split ℕ)) → old ≡ record { var = x; left = Some left } ∷ new → bare (climb old n []) ≡ bare (climb new (n + 1) [])
climb-both n x left old new was = ap (λ hs. bare (climb hs n [])) was ∙ climb-bare new (n + 1) (split_steps n (path new) left (n - 1))

-- on to the half beside
pub climb-right : (n x : ℕ) (old above new : List (Split ℕ)) → old ≡ record { var = x; left = None } ∷ above → new ≡ record { var = x; left = Some (n - 1) } ∷ above
    → bare (climb old n []) ≡ record { halves = new; next = n; steps = [] }
climb-right n x old above new was is = rw (was, is) refl

-- behind the root
pub climb-end : (n : ℕ) (old new : List (Split ℕ)) → old ≡ [] → new ≡ [] → bare (climb old n []) ≡ record { halves = new; next = n; steps = [] }
climb-end n old new was is = rw (was, is) refl

pub AreHalves-from : (n m : ℕ) (hs : List (Split ℕ)) → n ≤ m → All (IsHalf n) hs → All (IsHalf m) hs
AreHalves-from n m hs later h = All-weaker (IsHalf n) (IsHalf m) (λ h w. record { variable = w.variable; left = go h.left w.left }) hs h
  where
    go : (left : Option ℕ) → IsBefore n left → IsBefore m left
    go None b = b
    go (Some left) b = let below = b.1 in (b.0, omega arith)

-- what a joiner between two nodes gives yet
pub joined-standing : (j : Joiner) → IsStanding j → joined j ≡ record { halves = j.place; next = j.next; steps = [] }
joined-standing j at = joined-at j Between at.no_units at.between

-- the same place elsewhere
pub joined-bare : (old new : Joiner) → old.stage ≡ Between → IsStanding new → new.place ≡ old.place → new.next ≡ old.next → joined new ≡ bare (joined old)
joined-bare old new between at place next = joined-standing new at ∙ rw (place, next, between) refl

-- past a split
pub passed-split : (old : Joiner) (x : ℕ) → IsStanding old → IsVariable (max_vars large) x
    → let new : Joiner = record old { place = record { var = x; left = None } ∷ old.place } in (joined new ≡ bare (on_node old.clauses (joined old) (split_on x))) × IsStanding new
passed-split old x at variable =
    let new : Joiner = record old { place = record { var = x; left = None } ∷ old.place } in
    let keeps = at.joining in
    let stands : IsStanding new = record {
      joining = record {
        clauses = keeps.clauses;
        begun = keeps.begun;
        fits = keeps.fits;
        splits = All-cons (IsHalf old.next) (record { var = x; left = None }) old.place (record { variable = variable; left = tt }) keeps.splits;
        at = keeps.at;
        unit = keeps.unit;
        units = keeps.units;
      };
      between = at.between;
      no_units = at.no_units;
    } in
    (joined-standing new stands ∙ sym (ap (λ s. bare (on_node old.clauses s (split_on x))) (joined-standing old at)), stands)

-- past a leaf
pub passed-leaf : (old : Joiner) (lines : List Line) (place : List (Split ℕ)) (n : ℕ) → IsStanding old → bare (climb old.place (old.next + length lines) []) ≡ record { halves = place; next = n; steps = [] }
    → All (IsHalf n) place → old.next ≤ n → n ≤ max_number
    → let new : Joiner = record old { next = n; place = place } in (joined new ≡ bare (on_node old.clauses (joined old) (refuted_leaf lines))) × IsStanding new
passed-leaf old lines place n at climbed halves later fits =
    let new : Joiner = record old { next = n; place = place } in
    let keeps = at.joining in
    let begun = keeps.begun in
    let stands : IsStanding new = record {
      joining = record {
        clauses = keeps.clauses;
        begun = omega arith;
        fits = omega arith;
        splits = halves;
        at = subst (λ s. IsAtStage old.clauses s old.first n old.due.items old.deleted.items old.leaf) (sym at.between) tt;
        unit = keeps.unit;
        units = keeps.units;
      };
      between = at.between;
      no_units = at.no_units;
    } in (
      joined-standing new stands
          ∙ sym climbed
          ∙ sym (climb-bare old.place (old.next + length lines) (refuted_steps old.clauses old.next (path old.place) lines))
          ∙ sym (ap (λ s. bare (on_node old.clauses s (refuted_leaf lines))) (joined-standing old at)),
      stands,
    )

-- where nodes lead is the same with any lines before
pub on_nodes-bare : (N : ℕ) (s : Joined) (nodes : List Node) → on_nodes N s nodes ≡ behind s.steps (on_nodes N (bare s) nodes)
on_nodes-bare N s nodes = ap (λ S. on_nodes N (record s { steps = S }) nodes) (sym (append-nil s.steps)) ∙ on_nodes-behind N s.steps (bare s) nodes

-- one node more
pub passed-last : (N M : ℕ) (first old new : Joined) (nodes : List Node) (n : Node) → M ≡ N → old ≡ bare (on_nodes N first nodes) → new ≡ bare (on_node M old n) → new ≡ bare (on_nodes N first (nodes ++ n ∷ []))
passed-last N M first old new nodes n same so_far is =
    let s = on_nodes N first nodes in
    is
    ∙ ap (λ m. bare (on_node m old n)) same
    ∙ ap (λ t. bare (on_node N t n)) so_far
    ∙ sym (ap bare (on_nodes-bare N s (n ∷ [])))
    ∙ ap bare (sym (on_nodes-last N first nodes n))

pub one-passed : (N M : ℕ) (first old new : Joined) (before after : List LinesNode) (n : LinesNode) → M ≡ N → old ≡ bare (on_nodes N first (map node_of before)) → new ≡ bare (on_node M old (node_of n)) → after ≡ before ++ n ∷ []
    → new ≡ bare (on_nodes N first (map node_of after))
one-passed N M first old new before after n same so_far is more =
    passed-last N M first old new (map node_of before) (node_of n) same so_far is
    ∙ ap (λ ns. bare (on_nodes N first ns)) (sym (ap (map node_of) more ∙ map-append node_of before (n ∷ [])))

pub passed-on : (all before left after rest : List LinesNode) (n : LinesNode) → all ≡ before ++ left → left ≡ n ∷ rest → after ≡ before ++ n ∷ [] → all ≡ after ++ rest
passed-on all before left after rest n were is more =
    were ∙ ap (λ ns. before ++ ns) is ∙ sym (append_assoc before (n ∷ []) rest) ∙ ap (λ ns. ns ++ rest) (sym more)

pub AreNodes-rest : (N M : ℕ) (left rest : List LinesNode) (n : LinesNode) → M ≡ N → left ≡ n ∷ rest → AreNodes N (map node_of left) → AreNodes M (map node_of rest)
AreNodes-rest N M left rest n same is h = subst (λ m. AreNodes m (map node_of rest)) (sym same) (subst (λ ns. AreNodes N (map node_of ns)) is h).1

AreNodes-front : (N : ℕ) (ns ms : List Node) → AreNodes N (ns ++ ms) → AreNodes N ns
AreNodes-front N [] ms h = tt
AreNodes-front N (n ∷ ns) ms h = (h.0, AreNodes-front N ns ms h.1)

AreNodes-behind : (N : ℕ) (ns ms : List Node) → AreNodes N (ns ++ ms) → AreNodes N ms
AreNodes-behind N [] ms h = h
AreNodes-behind N (n ∷ ns) ms h = AreNodes-behind N ns ms h.1

-- the lines of all nodes are those of the first ones, and then those of the others, from where the
-- first ones lead
lines-parted : (N M : ℕ) (first begun new : Joined) (passed left : List Node) → M ≡ N → begun ≡ bare first → new ≡ bare (on_nodes N begun passed)
    → (on_nodes N first (passed ++ left)).steps ≡ (on_nodes N first passed).steps ++ (on_nodes M new left).steps
lines-parted N M first begun new passed left same at is =
    let s = on_nodes N first passed in
    let here : new ≡ bare s = is ∙ ap (λ t. bare (on_nodes N t passed)) at ∙ sym (ap bare (on_nodes-bare N first passed)) in
    ap (λ (t : Joined). t.steps) (on_nodes-append N first passed left ∙ on_nodes-bare N s left)
    ∙ ap (λ t. s.steps ++ (on_nodes N t left).steps) (sym here)
    ∙ ap (λ m. s.steps ++ (on_nodes m new left).steps) (sym same)

-- the lines of a part, and those that are left
pub record IsHandedOver (old part new : Lines) : Type 0 where
  pub left : lines_left old ≡ lines_left part ++ lines_left new
  pub handed : IsBetweenNodes part
  pub kept : IsBetweenNodes new

-- where a part has the joiner, and the first nodes
pub handed-over : (old part new : Lines) (begun : Joiner) → IsBetweenNodes old → part.joiner ≡ old.joiner → joined begun ≡ bare (joined part.joiner) → begun.clauses ≡ part.joiner.clauses → old.nodes.items ≡ part.nodes.items ++ new.nodes.items
    → joined new.joiner ≡ bare (on_nodes begun.clauses (joined begun) (map node_of part.nodes.items)) → new.joiner.clauses ≡ begun.clauses → IsStanding new.joiner → IsHandedOver old part new
handed-over old part new begun lawful same at count nodes is counted stands =
    let N = old.joiner.clauses in
    let passed = map node_of part.nodes.items in
    let left = map node_of new.nodes.items in
    let all : map node_of old.nodes.items ≡ passed ++ left = ap (map node_of) nodes ∙ map-append node_of part.nodes.items new.nodes.items in
    let number : begun.clauses ≡ N = count ∙ ap (λ (j : Joiner). j.clauses) same in
    let are : AreNodes N (passed ++ left) = subst (AreNodes N) all lawful.lines.nodes in
    record {
      left = ap (λ ns. (on_nodes N (joined old.joiner) ns).steps) all
          ∙ lines-parted N new.joiner.clauses (joined old.joiner) (joined begun) (joined new.joiner) passed left (counted ∙ number) (at ∙ ap (λ j. bare (joined j)) same) (is ∙ ap (λ m. bare (on_nodes m (joined begun) passed)) number)
          ∙ ap (λ (j : Joiner). (on_nodes j.clauses (joined j) passed).steps ++ lines_left new) (sym same);
      handed = record {
        lines = record {
          joiner = subst IsJoining (sym same) lawful.lines.joiner;
          nodes = subst (λ (j : Joiner). AreNodes j.clauses passed) (sym same) (AreNodes-front N passed left are);
        };
        between = ap (λ (j : Joiner). j.stage) same ∙ lawful.between;
      };
      kept = record {
        lines = record { joiner = stands.joining; nodes = subst (λ m. AreNodes m left) (sym (counted ∙ number)) (AreNodes-behind N passed left are) };
        between = stands.between;
      };
    }
