-- What the result of a formula is.
use Rattle.std.specs.Prelude.{◌≡◌, List, map}
use Rattle.theory.specs.Truth.{Formula, Satisfiable}
use Rattle.theory.specs.Plans.{Search, Plan}
use Rattle.theory.specs.FirstModel.{IsFound}
use Rattle.theory.specs.Learning.{Line}
use Rattle.theory.specs.Trees as trees
use Rattle.theory.specs.Checked.{IsCheckedResult}
use Rattle.cubes.specs.declared.tree.Node.{Node}
use Rattle.cubes.specs.declared.tree.Node.TheVariants.{Split, Leaf}
use Rattle.cubes.specs.declared.tree.Tree.{Tree}
use Rattle.cubes.specs.declared.tree.Tree.TheVariants.{Model, Refuted}

-- a row and a refutation are both seen as the lines that they have, and so the nodes and trees with
-- them are of one type
abbrev pub LinesNode : Type 0
LinesNode = Node (List Line)

abbrev pub LinesTree : Type 0
LinesTree = Tree (List Line)

-- the node where a leaf keeps what has these lines
abbrev pub node_by : {L : Type 0} → (L → List Line) → Node L → trees.Node
node_by lines (Split var) = trees.split_on var
node_by lines (Leaf kept) = trees.refuted_leaf (lines kept)

-- and where it keeps its lines
abbrev pub node_of : LinesNode → trees.Node
node_of n = node_by (λ lines. lines) n

-- the tree is the formula's result: its model, or the nodes of its tree, where a leaf keeps what
-- has these lines
abbrev pub IsResultBy : {L : Type 0} → (L → List Line) → Formula → Plan → Tree L → Type 0
IsResultBy lines F plan (Model values) = trees.IsResult F plan (trees.model_of values.items)
IsResultBy lines F plan (Refuted nodes) = (t : trees.Tree) × trees.IsResult F plan (trees.tree_of t) × (map (node_by lines) nodes.items ≡ trees.nodes_of t)

-- and where it keeps its lines
abbrev pub IsResultOf : Formula → Plan → LinesTree → Type 0
IsResultOf F plan t = IsResultBy (λ lines. lines) F plan t

-- the same of a result that is checked
abbrev pub IsCheckedResultBy : {L : Type 0} → (L → List Line) → Search → Formula → Tree L → Type 0
IsCheckedResultBy lines search F (Model values) = IsCheckedResult search F (trees.model_of values.items)
IsCheckedResultBy lines search F (Refuted nodes) = (t : trees.Tree) × IsCheckedResult search F (trees.tree_of t) × (map (node_by lines) nodes.items ≡ trees.nodes_of t)

-- and where it keeps its lines
abbrev pub IsCheckedResultOf : Search → Formula → LinesTree → Type 0
IsCheckedResultOf search F t = IsCheckedResultBy (λ lines. lines) search F t

-- what a result says of its formula: a model is one of its models, by the ordered search the first
-- one; without a model, the formula isn't satisfiable
abbrev pub Says : {L : Type 0} → Search → Formula → Tree L → Type 0
Says search F (Model values) = IsFound search F values.items
Says search F (Refuted nodes) = ¬ (Satisfiable F)
