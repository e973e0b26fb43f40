use Rattle.std.proofs.Common.{◌≡◌, ◌+◌, take}
use Rattle.theory.specs.Forgetting.{with_used}
use Rattle.cdcl.proofs.search.line_marks.mark_all_used.Given as goal

-- those of the numbers so far are marked
abbrev pub invariant-loop-number : goal.invariant-loop-number
invariant-loop-number l = l.marks ≡ with_used (take l.number-index l.numbers) (l.others + 1) l.fn.marks
