use Rattle.std.proofs.Common.{map}
use Rattle.cubes.specs.Known.{AreKnown}
use Rattle.cubes.specs.Solved.{solved_by}
use Rattle.cubes.proofs.known.Known.new.Given as goal

-- the outcomes so far
abbrev pub invariant-loop-solved : goal.invariant-loop-solved
invariant-loop-solved g l = AreKnown g.L.KeepsLines.lines (map (solved_by g.L.KeepsLines.lines) l.yielded) l.known
