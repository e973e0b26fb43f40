use Rattle.std.proofs.Common.{◌≡◌, length, nat_lt, drop}
use Rattle.std.specs.List.{list_any}
use Rattle.tidying.specs.Tidied.{has_repeats, once, open_clauses}
use Rattle.tidying.proofs.literals.has_repeats.Given as goal

-- the clauses that are left give the answer
abbrev pub invariant-loop-place : goal.invariant-loop-place
invariant-loop-place l = record {
  left : list_any (λ c. nat_lt (length (once c)) (length c)) (open_clauses (drop l.place l.formula.clauses)) ≡ has_repeats l.formula;
  vars : l.distinct.held.vars ≡ l.formula.vars;
}
