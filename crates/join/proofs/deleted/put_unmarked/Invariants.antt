use Rattle.std.proofs.Common.{◌≡◌, ◌-◌, ◌++◌, not, filter}
use Rattle.theory.specs.Proofs.{numbers_from}
use Rattle.join.specs.Deleted.{is_marked}
use Rattle.join.proofs.deleted.put_unmarked.Given as goal

-- the numbers that are left give the rest
abbrev pub invariant-loop-number : goal.invariant-loop-number
invariant-loop-number l = l.out.items ++ filter (λ k. not (is_marked l.first l.marks k)) (numbers_from l.number (l.end - l.number))
    ≡ l.initial.out.items ++ filter (λ k. not (is_marked l.first l.marks k)) (numbers_from l.first (l.end - l.first))
