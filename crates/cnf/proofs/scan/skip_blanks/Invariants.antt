use Rattle.std.proofs.Common.{◌≡◌, ◌-◌, ◌≤◌, length}
use Rattle.cnf.specs.Tokens.{in_header, tokens_left}
use Rattle.cnf.proofs.scan.skip_blanks.Given as goal

-- what is left has the tokens
abbrev pub invariant-loop-at : goal.invariant-loop-at
invariant-loop-at l = (l.from ≤ l.at) × (l.at ≤ length l.bytes) × (tokens_left in_header l.bytes l.at ≡ tokens_left in_header l.bytes l.from)

abbrev pub decreases-loop-at : goal.decreases-loop-at
decreases-loop-at l = length l.bytes - l.at
