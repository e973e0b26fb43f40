-- The numbers and variables in a tree and in its lines are within their limits.
use Rattle.std.specs.Prelude.{◌≡◌, ℕ, ◌+◌, ◌<◌, ◌≤◌, List, [], ◌∷◌, map, length, Option, Some, None, All}
use Rattle.theory.specs.Literals.{Literal, IsVariable}
use Rattle.theory.specs.Truth.{Formula, IsOver}
use Rattle.theory.specs.Reading.{large, max_vars}
use Rattle.theory.specs.Learning.{Line}
use Rattle.theory.specs.Trees as trees
use Rattle.theory.specs.Steps.{Step}
use Rattle.theory.specs.Plans.{Constants}
use Rattle.theory.specs.Beginnings.{Beginning, begun, proof}
use Rattle.theory.specs.Checking.{checks, accepted}
use Rattle.theory.specs.ProofReading.{IsStep, max_proof_bytes}
use Rattle.theory.specs.Texts.{proof_text}
use Rattle.cdcl.specs.Plans.{search_of, beginning_of, first_units}
use Rattle.cdcl.specs.declared.api.plan.Search.{Search}
use Rattle.cubes.specs.Result.{LinesTree, node_of, IsCheckedResultOf}
use Rattle.cubes.specs.declared.tree.Node.{Node}
use Rattle.cubes.specs.declared.tree.Tree.TheVariants.{Model, Refuted}
use Rattle.cubes.specs.declared.traversal.Split.{Split}

-- each hint is a number from 1 to n
abbrev pub AreUpTo : ℕ → List ℕ → Type 0
AreUpTo n hints = All (λ h. (1 ≤ h) × (h ≤ n)) hints

-- a cube's line of number n + 1, where these are still to come, names clauses before it and forgets
-- lines before it, which are numbered from N + 1 on; the last one forgets nothing
pub record IsLine (N n : ℕ) (line : Line) (lines : List Line) : Type 0 where
  pub over : IsOver (max_vars large) line.clause
  pub hints : AreUpTo n line.hints
  pub forgets : All (λ k. (N < k) × (k ≤ n)) line.forgets
  pub keeps : lines ≡ [] → line.forgets ≡ []

abbrev pub AreLines : ℕ → ℕ → List Line → Type 0
AreLines N n [] = Unit {0}
AreLines N n (line ∷ lines) = IsLine N n line lines × AreLines N (n + 1) lines

-- a node, where a search begins with N clauses
abbrev pub IsNode : ℕ → trees.Node → Type 0
IsNode N (trees.split_on x) = IsVariable (max_vars large) x
IsNode N (trees.refuted_leaf lines) = (0 < length lines) × AreLines N N lines

abbrev pub AreNodes : ℕ → List trees.Node → Type 0
AreNodes N [] = Unit {0}
AreNodes N (n ∷ ns) = IsNode N n × AreNodes N ns

-- the left half's last line, where it is known, stands before number n
abbrev pub IsBefore : ℕ → Option ℕ → Type 0
IsBefore n None = Unit {0}
IsBefore n (Some left) = (1 ≤ left) × (left < n)

pub record IsHalf (n : ℕ) (h : Split ℕ) : Type 0 where
  pub variable : IsVariable (max_vars large) h.var
  pub left : IsBefore n h.left

-- the literals whose unit clauses the proof of a result by this search begins with: that of a model
-- has none
abbrev pub AreUnitsOf : Formula → Search → LinesTree → List Literal → Type 0
AreUnitsOf F search (Model values) units = units ≡ []
AreUnitsOf F search (Refuted nodes) units = units ≡ first_units search F

-- the nodes of a result by this search, with whatever numbers, are those of a checked tree; of a
-- model nothing is asked, since it has none
abbrev pub AreChecked : Formula → Search → LinesTree → Type 0
AreChecked F search (Model values) = Unit {0}
AreChecked F search (Refuted nodes) = (constants : Constants) × IsCheckedResultOf (search_of search constants) (begun F (beginning_of search)) (Refuted nodes)

-- the nodes of a result: a model has none
abbrev pub AreNodesOf : LinesTree → List (Node (List Line)) → Type 0
AreNodesOf (Model values) nodes = nodes ≡ []
AreNodesOf (Refuted ns) nodes = nodes ≡ ns.items

-- the steps for a result: none for a model, and else the proof of the tree whose nodes they are
abbrev pub AreStepsOf : Formula → Beginning → LinesTree → List Step → Type 0
AreStepsOf F b (Model values) steps = steps ≡ []
AreStepsOf F b (Refuted nodes) steps = (t : trees.Tree) → trees.first_model t ≡ None → trees.nodes_of t ≡ map node_of nodes.items → steps ≡ proof F b t

-- the checker accepts the steps for a result that is no model
abbrev pub AreAccepted : Formula → LinesTree → List Step → Type 0
AreAccepted F (Model values) steps = Unit {0}
AreAccepted F (Refuted nodes) steps = checks F steps ≡ accepted

-- each number of the steps is within its limit, where their text is no longer than a proof may be
abbrev pub AreWithin : List Step → Type 0
AreWithin steps = length (proof_text steps) ≤ max_proof_bytes large → All IsStep steps
