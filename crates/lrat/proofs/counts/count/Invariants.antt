use Rattle.std.proofs.Common.{◌≡◌, ◌<◌, ◌≤◌, ℕ, true, take, vec_len}
use Rattle.theory.specs.Literals.{Literal, has}
use Rattle.cnf.specs.Lits.{code}
use Rattle.lrat.specs.Occurrences.{count_at}
use Rattle.lrat.proofs.counts.count.Given as goal

-- the clause counts for the literals so far
abbrev pub invariant-loop-lit : goal.invariant-loop-lit
invariant-loop-lit l = record {
  counted : (k : Literal) → has (take l.lit-index l.clause) k ≡ true → count_at l.fn.counts.items (code k) < count_at l.counts.items (code k);
  keeps : (n : ℕ) → count_at l.fn.counts.items n ≤ count_at l.counts.items n;
  len : vec_len l.counts ≡ vec_len l.fn.counts;
}
