use Rattle.std.proofs.Common.{◌≡◌, take}
use Rattle.theory.specs.Literals.{negations}
use Rattle.session.proofs.loading.negations_but_last.Given as goal

abbrev pub invariant-loop-place : goal.invariant-loop-place
invariant-loop-place l = l.cube ≡ negations (take l.place l.lits)
