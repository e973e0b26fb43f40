use Rattle.std.proofs.Common.{length, ◌-◌, ◌+◌, ◌≡◌, ◌≤◌, ◌++◌, drop}
use Rattle.simplify.specs.MergedLists.{merged}
use Rattle.simplify.proofs.two_lists.merge_first.Given as goal

-- what was taken, and the merge of what is left
abbrev pub invariant-loop-i : goal.invariant-loop-i
invariant-loop-i l = record {
  left : l.i ≤ length l.left;
  right : l.j ≤ length l.right;
  taken : l.out.items ++ merged (drop l.i l.left) (drop l.j l.right) ≡ l.fn.out.items ++ merged l.left l.right;
}

abbrev pub decreases-loop-i : goal.decreases-loop-i
decreases-loop-i l = (length l.left - l.i) + (length l.right - l.j)
