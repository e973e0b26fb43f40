use Rattle.std.proofs.Common.{◌≡◌, ◌+◌, drop}
use Rattle.std.specs.List.{sum_by}
use Rattle.theory.specs.Trying.{size}
use Rattle.simplify.proofs.effort.literal_count.Given as goal

-- what is left gives the rest
abbrev pub invariant-loop-place : goal.invariant-loop-place
invariant-loop-place l = l.count + sum_by size (drop l.place l.formula.clauses) ≡ sum_by size l.formula.clauses
