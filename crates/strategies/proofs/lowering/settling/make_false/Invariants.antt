use Rattle.std.proofs.Common.{◌≡◌, ℕ, ◌&&◌, not, length, drop}
use Rattle.theory.specs.Literals.{IsVariable, has, negative}
use Rattle.theory.specs.Truth.{value}
use Rattle.strategies.proofs.lowering.settling.make_false.Given as goal

-- the values and the literals that are left give the values at the end
abbrev pub invariant-loop-unit : goal.invariant-loop-unit
invariant-loop-unit l =
    (v : ℕ) → IsVariable (length l.model) v → (value l.model v && not (has (drop l.unit-index l.units) (negative v))) ≡ (value l.initial.model v && not (has l.units (negative v)))
