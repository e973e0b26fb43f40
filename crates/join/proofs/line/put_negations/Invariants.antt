use Rattle.std.proofs.Common.{◌≡◌, ◌++◌, map, drop}
use Rattle.join.proofs.CubeLemmas.{opposite}
use Rattle.join.proofs.line.put_negations.Given as goal

-- what is left gives the rest
abbrev pub invariant-loop-split : goal.invariant-loop-split
invariant-loop-split l = l.clause.items ++ map opposite (drop l.split-index l.splits) ≡ l.initial.clause.items ++ map opposite l.splits
