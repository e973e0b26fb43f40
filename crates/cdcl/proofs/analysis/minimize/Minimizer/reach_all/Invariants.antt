use Rattle.cdcl.proofs.QuestionLemmas.{GoesThrough}
use Rattle.cdcl.proofs.analysis.minimize.Minimizer.reach_all.Given as goal

-- the literals so far are covered
abbrev pub invariant-loop-lit : goal.invariant-loop-lit
invariant-loop-lit l = record { goes : GoesThrough l.kernel l.marks.marked.items l.marks.current l.at l.lit-index l.clause l.initial.self l.self }
