use Rattle.std.proofs.Common.{◌≡◌, ◌++◌, length}
use Rattle.cdcl.proofs.api.compatible.RefutationKeepsLines.keep.Given as goal

-- the lines so far, and behind them those that are still to be read
abbrev pub invariant-lines : goal.invariant-lines
invariant-lines l = l.lines.items ++ l.reader ≡ l.fn.log

abbrev pub decreases-lines : goal.decreases-lines
decreases-lines l = length l.reader
