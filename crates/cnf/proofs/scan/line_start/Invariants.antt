use Rattle.std.proofs.Common.{◌≡◌, ℕ, ◌<◌, ◌≤◌, get_or}
use Rattle.cnf.proofs.scan.line_start.Given as goal

-- no LF so far
abbrev pub invariant-loop-at : goal.invariant-loop-at
invariant-loop-at l = (l.at ≤ l.index) × ((k : ℕ) → l.at ≤ k → k < l.index → get_or l.bytes k 0 ≡ 10 → ⊥)

abbrev pub decreases-loop-at : goal.decreases-loop-at
decreases-loop-at l = l.at
