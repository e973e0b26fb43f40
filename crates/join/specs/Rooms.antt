-- How much memory the lines of a proof are given before the first one is made.
use Rattle.std.specs.Prelude.{◌≡◌, ℕ, ◌+◌, ◌-◌, ◌*◌, ◌^◌, ◌<◌, ◌≤◌, min, List}
use Rattle.std.specs.Vec.{vec_capacity}
use Rattle.cubes.specs.declared.size.TreeSize.{TreeSize}
use Rattle.cubes.specs.declared.tree.Tree.TheVariants.{Model, Refuted}
use Rattle.cubes.specs.Result.{LinesNode, LinesTree}
use Rattle.cubes.specs.Sizes.{IsSizeOf}
use Rattle.join.specs.declared.joiner.Joiner.{Joiner}
use Rattle.join.specs.declared.line.ProofLine.{ProofLine}
use Rattle.join.specs.declared.room.Need.{Need}

-- what is counted stops here
abbrev pub most : ℕ
most = 2 ^ 64 - 1

-- the bytes of the longest text of a line within the memory that it has: 12 a literal, 21 a number,
-- and 25 for the line's own number and the marks
abbrev pub longest_text : ProofLine → ℕ
longest_text l = min (12 * vec_capacity l.clause + 21 * vec_capacity l.numbers + 25) most

-- it is enough for each line of a tree of this size over so many variables: a leaf's line has the
-- literals of its cube too, and behind a half's last line its others are deleted; each of a leaf's
-- lines has a mark
pub record IsEnough (size : TreeSize) (vars : ℕ) (need : Need) : Type 0 where
  pub splits : need.splits ≡ min size.splits vars
  pub unit : 1 ≤ need.literals
  pub literals : min (size.most_literals + need.splits) most ≤ need.literals
  pub halves : 2 ≤ need.numbers
  pub numbers : size.most_numbers ≤ need.numbers
  pub deleted : 0 < need.splits → size.most_lines ≤ need.numbers
  pub marks : size.most_lines ≤ need.lines

-- a joiner has what is enough for each line of the tree; a model has no lines
pub record HasRoomFor (nodes : List LinesNode) (vars : ℕ) (j : Joiner) : Type 0 where
  pub size : TreeSize
  pub is_size : IsSizeOf nodes size
  pub need : Need
  pub is_enough : IsEnough size vars need
  pub literals : vec_capacity j.line.clause ≡ need.literals
  pub numbers : vec_capacity j.line.numbers ≡ need.numbers
  pub due : vec_capacity j.due ≡ need.numbers
  pub marks : vec_capacity j.deleted ≡ need.lines

abbrev pub HasRoom : LinesTree → ℕ → Joiner → Type 0
HasRoom (Model values) vars j = Unit {0}
HasRoom (Refuted nodes) vars j = HasRoomFor nodes.items vars j
