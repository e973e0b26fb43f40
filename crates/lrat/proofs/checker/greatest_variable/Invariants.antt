use Rattle.std.proofs.Common.{◌≡◌, ℕ, ◌||◌, not, nat_le, nat_lt, drop}
use Rattle.std.specs.List.{list_any}
use Rattle.theory.specs.Literals.{Literal}
use Rattle.lrat.proofs.checker.greatest_variable.Given as goal

-- what is left and the greatest so far give the answer
abbrev pub invariant-loop-lit : goal.invariant-loop-lit
invariant-loop-lit l = (vars : ℕ) → list_any (λ (k : Literal). not (nat_le k.var vars)) (drop l.lit-index l.clause) || nat_lt vars l.greatest ≡ list_any (λ (k : Literal). not (nat_le k.var vars)) l.clause
