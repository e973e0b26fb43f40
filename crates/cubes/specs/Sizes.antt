-- The size of a tree of splits.
use Rattle.std.specs.Prelude.{◌≡◌, ◌≤◌, Bool, true, false, not, List, length, All, Option, Some, None}
use Rattle.std.specs.List.{count_by}
use Rattle.theory.specs.Learning.{Line}
use Rattle.cubes.specs.Result.{LinesNode, LinesTree}
use Rattle.cubes.specs.declared.tree.Node.TheVariants.{Split, Leaf}
use Rattle.cubes.specs.declared.tree.Tree.TheVariants.{Model, Refuted}
use Rattle.cubes.specs.declared.size.TreeSize.{TreeSize}

abbrev pub is_split : LinesNode → Bool
is_split (Split var) = true
is_split (Leaf lines) = false

-- a refuted cube has no more lines than the size says, and none of them more literals or numbers
pub record FitsLeaf (s : TreeSize) (lines : List Line) : Type 0 where
  pub count : length lines ≤ s.most_lines
  pub literals : All (λ l. length l.clause ≤ s.most_literals) lines
  pub numbers : All (λ l. (length l.hints ≤ s.most_numbers) × (length l.forgets ≤ s.most_numbers)) lines

abbrev pub Fits : TreeSize → LinesNode → Type 0
Fits s (Split var) = Unit {0}
Fits s (Leaf lines) = FitsLeaf s lines

-- the size has as many splits and leaves as the nodes, and each leaf fits in
pub record IsSizeOf (nodes : List LinesNode) (s : TreeSize) : Type 0 where
  pub splits : s.splits ≡ count_by is_split nodes
  pub leaves : s.leaves ≡ count_by (λ n. not (is_split n)) nodes
  pub fits : All (Fits s) nodes

-- a tree with a model has no size
abbrev pub HasSize : LinesTree → Option TreeSize → Type 0
HasSize (Model values) found = found ≡ None
HasSize (Refuted nodes) None = ⊥
HasSize (Refuted nodes) (Some s) = IsSizeOf nodes.items s

-- what fits in the one fits in the other too
pub record IsNoSmaller (old new : TreeSize) : Type 0 where
  pub lines : old.most_lines ≤ new.most_lines
  pub literals : old.most_literals ≤ new.most_literals
  pub numbers : old.most_numbers ≤ new.most_numbers
