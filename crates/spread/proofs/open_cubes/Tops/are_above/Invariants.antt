use Rattle.spread.proofs.WordLemmas.{NoneBelow}
use Rattle.spread.proofs.open_cubes.Tops.are_above.Given as goal

-- no shorter beginning is one of the cubes
abbrev pub invariant-loop-count : goal.invariant-loop-count
invariant-loop-count l = NoneBelow l.self l.lits l.count
