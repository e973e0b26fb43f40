use Rattle.std.proofs.Common.{◌≡◌, ℕ, ◌-◌, ◌<◌, ◌≤◌, true, length, get_or}
use Rattle.cnf.specs.Tokens.{is_word_byte}
use Rattle.cnf.proofs.scan.word_end.Given as goal

-- bytes of a word so far
abbrev pub invariant-loop-at : goal.invariant-loop-at
invariant-loop-at l = (l.from ≤ l.at) × (l.at ≤ length l.bytes) × ((k : ℕ) → l.from ≤ k → k < l.at → is_word_byte (get_or l.bytes k 0) ≡ true)

abbrev pub decreases-loop-at : goal.decreases-loop-at
decreases-loop-at l = length l.bytes - l.at
