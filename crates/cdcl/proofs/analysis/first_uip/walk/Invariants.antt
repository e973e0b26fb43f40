use Rattle.std.proofs.Common.{[]}
use Rattle.cdcl.specs.Marks.{HaveMet}
use Rattle.cdcl.proofs.Pending.{top_of}
use Rattle.cdcl.proofs.WalkLemmas.{IsWalked}
use Rattle.cdcl.proofs.analysis.first_uip.walk.Given as goal

-- the places that wait give the rest of the answer; the variables seen are those of the hints
abbrev pub invariant-loop-place : goal.invariant-loop-place
invariant-loop-place l = record {
  walked : IsWalked l.kernel [] l.conflict l.marks l.hints.items;
  met : HaveMet l.kernel.clauses l.initial.hints.items l.initial.marks → HaveMet l.kernel.clauses l.hints.items l.marks;
}

-- each place is below the one before
abbrev pub decreases-loop-place : goal.decreases-loop-place
decreases-loop-place l = top_of l.marks.pending
