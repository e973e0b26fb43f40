use Rattle.std.proofs.Common.{◌≡◌, ◌+◌, ◌*◌, length, take}
use Rattle.lookahead.specs.Tables.{AreStamped}
use Rattle.lookahead.proofs.occurrences.stamp.Given as goal

-- the literals so far are noted
abbrev pub invariant-loop-lit : goal.invariant-loop-lit
invariant-loop-lit l = record {
  stamped : AreStamped l.vars l.number (take l.lit-index l.clause) l.stamps;
  room : length l.stamps ≡ 2 * l.vars + 2;
}
