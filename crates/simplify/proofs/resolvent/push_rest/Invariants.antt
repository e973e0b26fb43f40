use Rattle.std.proofs.Common.{◌≡◌, ◌+◌, ◌++◌, drop}
use Rattle.std.specs.Vec.{vec_len, vec_capacity}
use Rattle.simplify.proofs.resolvent.push_rest.Given as goal

-- what is left gives the rest, and there is room for it
abbrev pub invariant-loop-lit : goal.invariant-loop-lit
invariant-loop-lit l = record {
  items : l.out.items ++ drop l.lit-index l.rest ≡ l.initial.out.items ++ l.rest;
  len : vec_len l.out ≡ vec_len l.initial.out + l.lit-index;
  capacity : vec_capacity l.out ≡ vec_capacity l.initial.out;
}
