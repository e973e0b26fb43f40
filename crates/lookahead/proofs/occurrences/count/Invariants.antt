use Rattle.std.proofs.Common.{◌≡◌, ◌+◌, ◌*◌, length, take}
use Rattle.lookahead.proofs.TableLemmas.{AreCountedUpTo}
use Rattle.lookahead.proofs.occurrences.count.Given as goal

-- the literals so far are counted
abbrev pub invariant-loop-lit : goal.invariant-loop-lit
invariant-loop-lit l = record {
  counted : AreCountedUpTo l.vars l.number l.clause (take l.lit-index l.clause) l.fn.counts l.counts l.stamps;
  room : (length l.counts ≡ 2 * l.vars + 2) × (length l.stamps ≡ 2 * l.vars + 2);
}
