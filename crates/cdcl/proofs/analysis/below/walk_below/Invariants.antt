use Rattle.theory.specs.Removing.{first_walk}
use Rattle.cdcl.proofs.Pending.{top_of}
use Rattle.cdcl.proofs.BelowLemmas.{IsBelow}
use Rattle.cdcl.proofs.analysis.below.walk_below.Given as goal

-- the places that wait give the rest of the answer
abbrev pub invariant-loop-place : goal.invariant-loop-place
invariant-loop-place l = record { below : IsBelow l.kernel (first_walk l.kernel.clauses l.kernel.trail l.conflict).0 l.conflict l.marks l.hints.items }

-- each place is below the one before
abbrev pub decreases-loop-place : goal.decreases-loop-place
decreases-loop-place l = top_of l.marks.pending
