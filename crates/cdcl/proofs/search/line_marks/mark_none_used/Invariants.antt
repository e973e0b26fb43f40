use Rattle.std.proofs.Common.{◌≡◌}
use Rattle.theory.specs.Forgetting.{not_used}
use Rattle.cdcl.proofs.ListsInPlace.{changed-before}
use Rattle.cdcl.proofs.search.line_marks.mark_none_used.Given as goal

-- the marks so far are changed
abbrev pub invariant-loop-at : goal.invariant-loop-at
invariant-loop-at l = l.marks ≡ changed-before not_used l.at l.fn.marks
