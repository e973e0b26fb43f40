use Rattle.std.proofs.Common.{◌≡◌, ◌-◌, ◌≤◌, ◌<◌, true, length, get_or}
use Rattle.cnf.specs.Clauses.{state_of}
use Rattle.cnf.specs.Tokens.{behind_header, is_word_byte}
use Rattle.cnf.specs.Limits.{limits_of}
use Rattle.cnf.specs.Machine.{reads_from, reading_of}
use Rattle.cnf.proofs.clauses.read_clauses.Given as goal

-- what is left of the text gives its reading
abbrev pub invariant-loop-at : goal.invariant-loop-at
invariant-loop-at l =
    (l.at ≤ length l.bytes) × (l.at < length l.bytes → is_word_byte (get_or l.bytes l.at 0) ≡ true) × (l.clauses.limits ≡ l.fn.limits) × (reading_of (limits_of l.fn.limits) l.bytes ≡ reads_from (limits_of l.fn.limits) (state_of l.clauses) behind_header l.bytes l.at)

abbrev pub decreases-loop-at : goal.decreases-loop-at
decreases-loop-at l = length l.bytes - l.at
