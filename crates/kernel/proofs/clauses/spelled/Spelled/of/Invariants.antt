use Rattle.std.proofs.Common.{◌≡◌, take}
use Rattle.kernel.proofs.clauses.spelled.Spelled.of.Given as goal

-- the literals so far
abbrev pub invariant-loop-lit : goal.invariant-loop-lit
invariant-loop-lit l = l.spelled ≡ take l.lit-index l.lits
