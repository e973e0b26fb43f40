use Rattle.std.proofs.Common.{◌≡◌, map}
use Rattle.theory.specs.Literals.{has, positive}
use Rattle.theory.specs.Trails.{literals, variables}
use Rattle.cdcl.proofs.search.values.values.Given as goal

-- the values of the variables so far
abbrev pub invariant-loop-index : goal.invariant-loop-index
invariant-loop-index l = l.values.items ≡ map (λ v. has (literals l.kernel.trail) (positive v)) (variables l.index)
