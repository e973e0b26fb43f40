use Rattle.std.proofs.Common.{◌≡◌, ℕ, ◌≤◌, length, take}
use Rattle.lookahead.specs.Tables.{at, AreOccurrences}
use Rattle.lookahead.proofs.occurrences.count_all.Given as goal

-- the clauses so far are counted
abbrev pub invariant-loop-before : goal.invariant-loop-before
invariant-loop-before l = record {
  counted : AreOccurrences l.kernel.vars (take l.before l.kernel.clauses) l.counts;
  within : (i : ℕ) → at l.stamps i ≤ l.before;
  room : (length l.counts ≡ length l.fn.counts) × (length l.stamps ≡ length l.fn.stamps);
}
