use Rattle.std.proofs.Common.{◌≡◌, ◌≤◌, length, drop}
use Rattle.theory.specs.Simplifying.{extended_model}
use Rattle.simplify.proofs.eliminated.EliminatedVars.extend.Given as goal

-- those from the place on have their values
abbrev pub invariant-loop-place : goal.invariant-loop-place
invariant-loop-place l = record {
  within : l.place ≤ length l.self;
  values : l.values ≡ extended_model (length l.fn.values) (drop l.place l.self) l.fn.values;
}

abbrev pub decreases-loop-place : goal.decreases-loop-place
decreases-loop-place l = l.place
