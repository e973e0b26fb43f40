use Rattle.std.proofs.Common.{◌≡◌, ℕ, length}
use Rattle.theory.specs.Literals.{IsVariable}
use Rattle.theory.specs.Truth.{value}
use Rattle.strategies.proofs.lowering.question.values_up_to.Given as goal

-- the values so far
abbrev pub invariant-loop-index : goal.invariant-loop-index
invariant-loop-index l = record {
  long : length l.up_to.items ≡ l.index;
  same : (v : ℕ) → IsVariable l.index v → value l.up_to.items v ≡ value l.values v;
}
