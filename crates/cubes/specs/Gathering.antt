-- Going through the cubes of a formula's tree, from left to right, with the nodes before a cube.
use Rattle.std.specs.Prelude.{◌≡◌, ◌≤◌, ◌<◌, ◌^◌, false, List, ◌∷◌, [], ◌++◌, map, Option, Some, None, true}
use Rattle.theory.specs.Literals.{has_var}
use Rattle.theory.specs.Learning.{Line}
use Rattle.theory.specs.Trees as trees
use Rattle.cdcl.specs.declared.api.outcome.Outcome.{Outcome}
use Rattle.cdcl.specs.declared.api.outcome.Outcome.TheVariants as outcome
use Rattle.cubes.specs.declared.tree.Tree.{Tree}
use Rattle.cubes.specs.declared.tree.Tree.TheVariants as tree
use Rattle.cubes.specs.declared.gathering.Gathering.{Gathering}
use Rattle.cubes.specs.CubeWalks.{Enters, GoesOn}
use Rattle.cubes.specs.Result.{node_by}

-- the nodes, where a leaf keeps what has these lines
abbrev pub nodes_of : {L : Type 0} → (L → List Line) → Gathering L → List trees.Node
nodes_of lines g = map (node_by lines) g.nodes.items

-- a cube is split on a variable that isn't in it
abbrev pub CanSplit : {L : Type 0} → Gathering L → Outcome L → Type 0
CanSplit g (outcome.Exhausted x) = (1 ≤ x) × (x < 2 ^ 31) × (has_var g.at.cube x ≡ false)
CanSplit g o = Unit {0}

-- behind a refuted cube: the next cube, or none, and then the tree is done
abbrev pub GoesRight : {L : Type 0} → (L → List Line) → Gathering L → List trees.Node → Option (Tree L) → Gathering L → Type 0
GoesRight lines g nodes None h = GoesOn g.at true h.at × (nodes_of lines h ≡ nodes)
GoesRight lines g nodes (Some (tree.Refuted all)) h = GoesOn g.at false h.at × (map (node_by lines) all.items ≡ nodes)
GoesRight lines g nodes (Some (tree.Model values)) h = ⊥

-- from a cube of this outcome on
abbrev pub GoesOnWith : {L : Type 0} → (L → List Line) → Gathering L → Outcome L → Option (Tree L) → Gathering L → Type 0
GoesOnWith lines g (outcome.Model values) found h = found ≡ Some (tree.Model values)
GoesOnWith lines g (outcome.Exhausted x) found h = (found ≡ None) × Enters x g.at h.at × (nodes_of lines h ≡ nodes_of lines g ++ trees.split_on x ∷ [])
GoesOnWith lines g (outcome.Refuted kept) found h = GoesRight lines g (nodes_of lines g ++ trees.refuted_leaf (lines kept) ∷ []) found h
