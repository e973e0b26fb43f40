-- Going through a formula's tree where outcomes come one after the other.
use Rattle.std.specs.Prelude.{List, [], ◌∷◌, map, Option, Some, None}
use Rattle.theory.specs.Literals.{Literal}
use Rattle.theory.specs.Truth.{Formula}
use Rattle.theory.specs.Plans.{Search}
use Rattle.theory.specs.Search.{Outcome, model, refuted, exhausted}
use Rattle.theory.specs.Trees as trees
use Rattle.theory.specs.Checked.{IsCheckedSplit, AreCheckedLines}
use Rattle.cubes.specs.declared.tree.Tree.TheVariants.{Model, Refuted}
use Rattle.cubes.specs.Result.{LinesNode, LinesTree, node_of}

-- the node of a cube with this outcome; that of a model is none
abbrev pub nodes_from : Outcome → List trees.Node
nodes_from (model M) = []
nodes_from (refuted lines) = trees.refuted_leaf lines ∷ []
nodes_from (exhausted x) = trees.split_on x ∷ []

-- a node that may be there
abbrev pub nodes_in : Option LinesNode → List trees.Node
nodes_in None = []
nodes_in (Some n) = node_of n ∷ []

-- the node of the cube Q is checked by the search
abbrev pub IsCheckedNode : Search → Formula → List Literal → trees.Node → Type 0
IsCheckedNode search F Q (trees.split_on x) = IsCheckedSplit search F Q x
IsCheckedNode search F Q (trees.refuted_leaf lines) = AreCheckedLines F Q lines

-- all nodes of a tree without a model are taken
abbrev pub AreTaken : (List trees.Node → Type 0) → LinesTree → Type 0
AreTaken takes (Model values) = Unit {0}
AreTaken takes (Refuted nodes) = takes (map node_of nodes.items)
