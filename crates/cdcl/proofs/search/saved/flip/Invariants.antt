use Rattle.std.proofs.Common.{◌≡◌, not}
use Rattle.cdcl.proofs.ListsInPlace.{changed-before}
use Rattle.cdcl.proofs.search.saved.flip.Given as goal

-- the values so far are changed
abbrev pub invariant-loop-at : goal.invariant-loop-at
invariant-loop-at l = l.values ≡ changed-before not l.at l.fn.values
