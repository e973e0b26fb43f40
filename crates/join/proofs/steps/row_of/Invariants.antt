use Rattle.std.proofs.Common.{◌≡◌, take}
use Rattle.join.proofs.steps.row_of.Given as goal

-- the lines so far
abbrev pub invariant-loop-line : goal.invariant-loop-line
invariant-loop-line l = l.row ≡ take l.line-index l.line-items
