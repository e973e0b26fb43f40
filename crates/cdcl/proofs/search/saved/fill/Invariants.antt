use Rattle.std.proofs.Common.{◌≡◌}
use Rattle.cdcl.proofs.ListsInPlace.{changed-before}
use Rattle.cdcl.proofs.search.saved.fill.Given as goal

-- the values so far are changed
abbrev pub invariant-loop-at : goal.invariant-loop-at
invariant-loop-at l = l.values ≡ changed-before (λ v. l.value) l.at l.fn.values
