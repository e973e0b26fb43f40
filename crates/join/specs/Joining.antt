-- How a tree's nodes, one after the other, give the lines of its proof.
use Rattle.std.specs.Prelude.{ℕ, ◌+◌, ◌-◌, Bool, List, [], ◌∷◌, ◌++◌, map, length, Some, None}
use Rattle.theory.specs.Literals.{Literal, negations}
use Rattle.theory.specs.Truth.{Formula}
use Rattle.theory.specs.Trees as trees
use Rattle.theory.specs.Steps.{Step, add}
use Rattle.theory.specs.Learning.{Line}
use Rattle.theory.specs.Proofs.{renumbered, leaf_steps, refuted_steps, split_steps, unit_steps, deletion}
use Rattle.cubes.specs.declared.traversal.Split.{Split}
use Rattle.cubes.specs.Traversal.{path}
use Rattle.join.specs.Deleted.{left_by}

-- the splits on the way, the last one first; the number of the next line; and the lines so far
pub record Joined : Type 0 where
  pub halves : List (Split ℕ)
  pub next : ℕ
  pub steps : List Step

-- what follows a subtree's last line: on to the half beside it, or, behind that, the line of their
-- split, and so on
abbrev pub climb : List (Split ℕ) → ℕ → List Step → Joined
climb [] n steps = record { halves = []; next = n; steps = steps }
climb (h ∷ hs) n steps = elim h.left [
  | None ↦ record { halves = record { var = h.var; left = Some (n - 1) } ∷ hs; next = n; steps = steps }
  | Some left ↦ climb hs (n + 1) (steps ++ split_steps n (path hs) left (n - 1))
]

-- what follows a node, where N is the number of the clauses that a search begins with
abbrev pub on_node : ℕ → Joined → trees.Node → Joined
on_node N s (trees.split_on x) = record s { halves = record { var = x; left = None } ∷ s.halves }
on_node N s (trees.refuted_leaf lines) = climb s.halves (s.next + length lines) (s.steps ++ refuted_steps N s.next (path s.halves) lines)

abbrev pub on_nodes : ℕ → Joined → List trees.Node → Joined
on_nodes N s [] = s
on_nodes N s (n ∷ ns) = on_nodes N (on_node N s n) ns

-- the line of a unit clause
abbrev pub unit_line : ℕ → Literal → Step
unit_line n l = add (record { id = n; clause = l ∷ []; hints = []; groups = [] })

-- the line of a leaf whose first line has the number first
abbrev pub learnt_line : ℕ → ℕ → ℕ → List Literal → Line → Step
learnt_line N first n Q line = add (record { id = n; clause = line.clause ++ negations Q; hints = map (renumbered N first) line.hints; groups = [] })

-- the line of a split
abbrev pub split_line : ℕ → List Literal → ℕ → ℕ → Step
split_line n Q left right = add (record { id = n; clause = negations Q; hints = left ∷ right ∷ []; groups = [] })

-- what is left of a leaf's lines, of which the next has the number n, and what they leave to be
-- deleted, where those before are marked; behind the last one nothing is left
abbrev pub leaf_left : ℕ → ℕ → ℕ → List Literal → List Bool → List Line → List Step
leaf_left N first n Q marks [] = []
leaf_left N first n Q marks (line ∷ lines) =
    leaf_steps N first n Q (line ∷ lines) ++ deletion Q (n + length lines) (left_by N first (n + length lines) marks (line ∷ lines))

-- what follows from within a leaf on, of which some lines are left, or none; the next of them has
-- the number n
abbrev pub from_leaf : ℕ → ℕ → ℕ → List (Split ℕ) → List Bool → List Line → Joined
from_leaf N first n hs marks leaf = climb hs (n + length leaf) (leaf_left N first n (path hs) marks leaf)

-- the same, with more lines before
abbrev pub behind : List Step → Joined → Joined
behind lines s = record { halves = s.halves; next = s.next; steps = lines ++ s.steps }

-- the same, without its lines
abbrev pub bare : Joined → Joined
bare s = record { halves = s.halves; next = s.next; steps = [] }

-- before the first node, where the formula has C clauses and the units' lines come first
abbrev pub before_nodes : ℕ → List Literal → Joined
before_nodes C units = record { halves = []; next = C + length units + 1; steps = unit_steps (C + 1) units }

-- what follows the first nodes of a formula's tree, behind the lines of these units
abbrev pub after_nodes : Formula → List Literal → List trees.Node → Joined
after_nodes F units nodes = on_nodes (length F.clauses + length units) (before_nodes (length F.clauses) units) nodes
