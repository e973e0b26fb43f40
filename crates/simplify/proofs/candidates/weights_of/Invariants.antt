use Rattle.std.proofs.Common.{◌≡◌, map}
use Rattle.theory.specs.Trails.{variables}
use Rattle.simplify.specs.Entries.{weight_in}
use Rattle.simplify.proofs.candidates.weights_of.Given as goal

-- those of the first variables
abbrev pub invariant-loop-place : goal.invariant-loop-place
invariant-loop-place l = l.weights.items ≡ map (weight_in l.database.entries) (variables l.place)
