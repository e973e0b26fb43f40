use Rattle.std.proofs.Common.{◌≡◌, ◌+◌, ◌-◌, ◌≤◌}
use Rattle.cnf.specs.Tokens.{place_at}
use Rattle.cnf.proofs.scan.line_of.Given as goal

-- the line of the byte reached
abbrev pub invariant-loop-at : goal.invariant-loop-at
invariant-loop-at l = (l.at ≤ l.index) × (l.line ≡ (place_at l.bytes l.at).line) × (l.line ≤ l.at + 1)

abbrev pub decreases-loop-at : goal.decreases-loop-at
decreases-loop-at l = l.index - l.at
