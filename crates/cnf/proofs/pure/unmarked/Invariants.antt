use Rattle.std.proofs.Common.{◌≡◌, not}
use Rattle.theory.specs.Truth.{value}
use Rattle.theory.proofs.searching.PureVariables.{negatives}
use Rattle.cnf.proofs.pure.unmarked.Given as goal

-- the negations of the variables looked at
abbrev pub invariant-loop-index : goal.invariant-loop-index
invariant-loop-index l = l.literals.items ≡ negatives (λ w. not (value l.marks w)) l.index
