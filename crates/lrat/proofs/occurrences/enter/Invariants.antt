use Rattle.std.proofs.Common.{◌≡◌, ℕ, true, take, vec_len}
use Rattle.theory.specs.Literals.{Literal, has}
use Rattle.lrat.specs.Chained.{IsIn, AreChains}
use Rattle.cnf.specs.Lits.{code}
use Rattle.lrat.proofs.occurrences.enter.Given as goal

-- the place is in the chains of the literals so far
abbrev pub invariant-loop-lit : goal.invariant-loop-lit
invariant-loop-lit l = record {
  entered : (k : Literal) → has (take l.lit-index l.clause) k ≡ true → IsIn l.chains (code k) l.place;
  chains : AreChains l.chains;
  keeps : (n i : ℕ) → IsIn l.fn.chains n i → IsIn l.chains n i;
  len : vec_len l.chains.heads ≡ vec_len l.fn.chains.heads;
}
