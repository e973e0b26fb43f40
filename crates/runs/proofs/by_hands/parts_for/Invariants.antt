use Rattle.std.proofs.Common.{All}
use Rattle.runs.specs.Parts.{IsIdle}
use Rattle.runs.proofs.by_hands.parts_for.Given as goal

abbrev pub invariant-loop-hand : goal.invariant-loop-hand
invariant-loop-hand l = All IsIdle l.parts.items
