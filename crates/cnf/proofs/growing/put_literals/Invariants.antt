use Rattle.std.proofs.Common.{◌≡◌, ◌+◌, ◌-◌, ◌≤◌, ◌++◌, length, drop}
use Rattle.std.specs.Vec.{vec_len, vec_capacity}
use Rattle.cnf.proofs.growing.put_literals.Given as goal

-- what is left gives the rest, and there is room for it
abbrev pub invariant-loop-lit : goal.invariant-loop-lit
invariant-loop-lit l = record {
  items : l.literals.items ++ drop l.lit-index l.clause ≡ l.initial.literals.items ++ l.clause;
  room : vec_len l.literals + (length l.clause - l.lit-index) ≤ vec_capacity l.literals;
}
