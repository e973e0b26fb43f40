use Rattle.std.proofs.Common.{◌≡◌, false, take}
use Rattle.std.specs.List.{list_any}
use Rattle.theory.specs.Literals.{has, negated}
use Rattle.lookahead.proofs.occurrences.has_both_signs.Given as goal

-- no literal so far has its negation in the clause
abbrev pub invariant-loop-lit : goal.invariant-loop-lit
invariant-loop-lit l = list_any (λ k. has l.clause (negated k)) (take l.lit-index l.clause) ≡ false
