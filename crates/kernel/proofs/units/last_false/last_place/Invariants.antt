use Rattle.std.proofs.Common.{◌≡◌, take}
use Rattle.theory.specs.Propagation.{last_false}
use Rattle.kernel.proofs.units.last_false.last_place.Given as goal

abbrev pub invariant-loop-lit : goal.invariant-loop-lit
invariant-loop-lit l = (l.last ≡ last_false l.trail.entries (take l.lit-index l.clause))
