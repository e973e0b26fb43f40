-- The nodes of a tree give its lines.
use Rattle.std.proofs.Common.{◌≡◌, ℕ, ◌+◌, ◌-◌, List, [], ◌∷◌, ◌++◌, Some, None, refl, ap, ◌∙◌, append_assoc, arith}
use Rattle.theory.specs.Trees.{Tree, satisfied, refutation, split, first_model, Node, nodes_of}
use Rattle.theory.specs.Steps.{Step}
use Rattle.theory.specs.Proofs.{tree_steps, additions}
use Rattle.cubes.specs.declared.traversal.Split.{Split}
use Rattle.join.specs.Joining.{Joined, on_node, on_nodes, climb}
use Rattle.cubes.specs.Traversal.{path}
use Rattle.theory.proofs.checker.AcceptedProofs.{or_else-none}

pub on_nodes-append : (N : ℕ) (s : Joined) (ns ms : List Node) → on_nodes N s (ns ++ ms) ≡ on_nodes N (on_nodes N s ns) ms
on_nodes-append N s [] ms = refl
on_nodes-append N s (n ∷ ns) ms = on_nodes-append N (on_node N s n) ns ms

-- the lines of a tree without a model, and then what follows its last line
pub on_nodes-tree : (N : ℕ) (t : Tree) (s : Joined) → first_model t ≡ None
    → on_nodes N s (nodes_of t) ≡ climb s.halves (s.next + additions t) (s.steps ++ tree_steps N s.next (path s.halves) t)
on_nodes-tree N (satisfied M) s h = absurd (cc)
on_nodes-tree N (refutation lines) s h = refl
on_nodes-tree N (split x l r) s h =
    let none = or_else-none (first_model l) (first_model r) h in
    let in_left : Joined = record s { halves = record { var = x; left = None } ∷ s.halves } in
    let middle : ℕ = s.next + additions l in
    let first : List Step = s.steps ++ tree_steps N s.next (path in_left.halves) l in
    let in_right : Joined = record { halves = record { var = x; left = Some (middle - 1) } ∷ s.halves; next = middle; steps = first } in
    on_nodes-append N in_left (nodes_of l) (nodes_of r)
    ∙ (ap (λ (t : Joined). on_nodes N t (nodes_of r)) (on_nodes-tree N l in_left none.0)
    ∙ (on_nodes-tree N r in_right none.1
    ∙ regroup s.halves s.next (additions l) (additions r) s.steps _ _ _))
  where
    regroup : (hs : List (Split ℕ)) (n a b : ℕ) (S A B C : List Step) → climb hs (n + a + b + 1) (((S ++ A) ++ B) ++ C) ≡ climb hs (n + (a + b + 1)) (S ++ ((A ++ B) ++ C))
    regroup hs n a b S A B C =
        let numbers : n + a + b + 1 ≡ n + (a + b + 1) = omega arith in
        rw (numbers, append_assoc S A B, append_assoc S (A ++ B) C) refl
