use Rattle.std.proofs.Common.{◌≡◌, not, nat_le, drop}
use Rattle.std.specs.List.{list_any}
use Rattle.theory.specs.Literals.{Literal}
use Rattle.lrat.proofs.checker.is_over.Given as goal

-- the literals that are left give the answer
abbrev pub invariant-loop-lit : goal.invariant-loop-lit
invariant-loop-lit l = list_any (λ (k : Literal). not (nat_le k.var l.vars)) (drop l.lit-index l.clause) ≡ list_any (λ (k : Literal). not (nat_le k.var l.vars)) l.clause
