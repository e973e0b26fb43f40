use Rattle.std.proofs.Common.{◌≡◌, ◌+◌, ◌++◌, sum_by, filter, map, drop}
use Rattle.simplify.specs.Resolving.{line_of}
use Rattle.simplify.proofs.PairSums.{pair_size, has_one_sign}
use Rattle.simplify.proofs.resolvents.Resolvents.put_row.Given as goal

-- what is left gives the rest
abbrev pub invariant-loop-other : goal.invariant-loop-other
invariant-loop-other l = record {
  work : l.work + sum_by (pair_size l.database.entries l.number) (drop l.other-index l.others) ≡ sum_by (pair_size l.database.entries l.number) l.others;
  lines : l.self ++ filter has_one_sign (map (line_of l.variable l.database.entries l.number) (drop l.other-index l.others)) ≡ l.fn.self ++ filter has_one_sign (map (line_of l.variable l.database.entries l.number) l.others);
}
