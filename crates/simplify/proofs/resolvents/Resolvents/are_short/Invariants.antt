use Rattle.std.proofs.Common.{◌≡◌, nat_le, length, drop}
use Rattle.std.specs.List.{list_all}
use Rattle.theory.specs.Learning.{Line}
use Rattle.simplify.proofs.resolvents.Resolvents.are_short.Given as goal

-- what is left decides
abbrev pub invariant-loop-place : goal.invariant-loop-place
invariant-loop-place l = list_all (λ (line : Line). nat_le (length line.clause) l.most) (drop l.place l.self) ≡ list_all (λ (line : Line). nat_le (length line.clause) l.most) l.self
