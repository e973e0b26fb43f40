use Rattle.std.proofs.Common.{◌≡◌, ◌+◌, ◌-◌, ◌++◌, drop}
use Rattle.theory.specs.Plans.{Constants}
use Rattle.theory.specs.Forgetting as forgetting
use Rattle.cdcl.proofs.search.forgetting.candidates.Given as goal

-- those of the clauses to come are missing
abbrev pub invariant-loop-at : goal.invariant-loop-at
invariant-loop-at l =
    (c : Constants) → c.kept_glue ≡ l.kept_glue →
    l.candidates.items ++ forgetting.candidates c l.kernel.trail (l.from + l.at) (drop (l.from - 1 + l.at) l.kernel.clauses) (drop l.at l.marks)
    ≡ forgetting.candidates c l.kernel.trail l.from (drop (l.from - 1) l.kernel.clauses) l.marks
