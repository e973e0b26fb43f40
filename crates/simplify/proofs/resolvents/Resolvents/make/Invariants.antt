use Rattle.std.proofs.Common.{◌≡◌, ◌+◌, ◌++◌, drop}
use Rattle.simplify.specs.Resolving.{lines_of_pairs, literals_of_pairs}
use Rattle.simplify.proofs.resolvents.Resolvents.make.Given as goal

-- what is left gives the rest
abbrev pub invariant-loop-number : goal.invariant-loop-number
invariant-loop-number l = record {
  work : l.work + literals_of_pairs l.database.entries (drop l.number-index l.left) l.right ≡ literals_of_pairs l.database.entries l.left l.right;
  lines : l.self ++ lines_of_pairs l.variable l.database.entries (drop l.number-index l.left) l.right ≡ lines_of_pairs l.variable l.database.entries l.left l.right;
}
