use Rattle.std.proofs.Common.{◌≡◌, ◌++◌, drop}
use Rattle.simplify.specs.MergedLists.{merged}
use Rattle.simplify.proofs.two_lists.merge.Given as goal

-- what is merged, and the numbers behind it so far
abbrev pub invariant-loop-number : goal.invariant-loop-number
invariant-loop-number l = l.out.items ++ drop l.number-index l.number-items ≡ merged l.left l.right
