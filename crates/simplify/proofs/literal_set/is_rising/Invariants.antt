use Rattle.std.proofs.Common.{◌≡◌, drop}
use Rattle.simplify.proofs.SortedLiterals.{is_above}
use Rattle.simplify.proofs.literal_set.is_rising.Given as goal

-- what is left decides
abbrev pub invariant-loop-lit : goal.invariant-loop-lit
invariant-loop-lit l = is_above l.least (drop l.lit-index l.lits) ≡ is_above 0 l.lits
