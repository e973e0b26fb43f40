use Rattle.std.proofs.Common.{◌≡◌}
use Rattle.join.proofs.steps.rows_of.Given as goal

-- those so far
abbrev pub invariant-loop-node : goal.invariant-loop-node
invariant-loop-node l = l.rows.items ≡ l.yielded
