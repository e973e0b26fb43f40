-- The result of a formula whose cube without literals isn't split.
use Rattle.std.proofs.Common.{◌≡◌, List, [], ◌∷◌, map, refl}
use Rattle.theory.specs.Truth.{Formula}
use Rattle.theory.specs.Plans.{Plan}
use Rattle.theory.specs.Learning.{Line}
use Rattle.theory.specs.Search.{model, refuted}
use Rattle.theory.specs.Runs.{Runs}
use Rattle.theory.specs.Trees as trees
use Rattle.theory.specs.Trees.{here}
use Rattle.cubes.specs.declared.tree.Tree.{Tree}
use Rattle.cubes.specs.declared.tree.Tree.TheVariants as tree
use Rattle.cubes.specs.Result.{node_by, IsResultBy}

-- the tree has what that cube came to
abbrev pub IsOfRoot : {L : Type 0} → (L → List Line) → Formula → Plan → Tree L → Type 0
IsOfRoot lines F plan (tree.Model values) = Runs F plan [] (model values.items)
IsOfRoot lines F plan (tree.Refuted nodes) = (row : List Line) × Runs F plan [] (refuted row) × (map (node_by lines) nodes.items ≡ trees.refuted_leaf row ∷ [])

pub root-result : {L : Type 0} (lines : L → List Line) (F : Formula) (plan : Plan) (t : Tree L) → IsOfRoot lines F plan t → IsResultBy lines F plan t
root-result lines F plan (tree.Model values) r = here r
root-result lines F plan (tree.Refuted nodes) r = (trees.refutation r.0, (r.1, refl), r.2)
