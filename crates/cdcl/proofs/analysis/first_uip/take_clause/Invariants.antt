use Rattle.std.proofs.Common.{◌≡◌, ◌<◌, length, ℕ, []}
use Rattle.theory.specs.Literals.{Clause}
use Rattle.cdcl.specs.Marks.{IsSet}
use Rattle.cdcl.proofs.TakenClauses.{IsTaken}
use Rattle.cdcl.proofs.SeenVariables.{last_of}
use Rattle.cdcl.proofs.analysis.first_uip.take_clause.Given as goal

-- the literals of the variables so far are taken
abbrev pub invariant-loop-at : goal.invariant-loop-at
invariant-loop-at l = record {
  long : l.kernel.vars < length l.marks.marked.items;
  seen : l.marks.seen ≡ l.initial.marks.seen;
  pending : l.marks.pending ≡ l.initial.marks.pending;
  taken : (S : Clause) → (bound : ℕ) → IsSet l.kernel [] S bound l.initial.marks → IsTaken l.kernel S (last_of l.marks.seen.items l.at) l.marks.marked.items l.clause.items;
}
