use Rattle.std.proofs.Common.{map}
use Rattle.std.proofs.lemmas.List.{map-append}
use Rattle.cubes.specs.Solved.{solved_by}
use Rattle.cubes.proofs.KnownLemmas.{AreKnown-skipped, AreKnown-done}
use Rattle.cubes.proofs.known.Known.new.Goals.{in-Done+in_ok-put-in-Done, in-Skipped}
use Rattle.cubes.proofs.known.Known.new.Goals as goal

pub loop-solved-preserved : goal.loop-solved-preserved
loop-solved-preserved g c = rw map-append (elim c.match-what.branch [
  | in-Done+in_ok-put-in-Done w ↦ rw (w.known-is, w.in-Done.is) (AreKnown-done g.L.KeepsLines.lines (map (solved_by g.L.KeepsLines.lines) c.loop-solved.yielded) c.loop-solved.known w.put.new.self c.in-Some.solved.cube c.loop-solved.invariant w.in-Done.outcome w.put.ensures.variables w.in_ok-put-in-Done.ensures.outcome w.in_ok-put-in-Done.ensures.others)
  | in-Skipped w ↦ rw (w.known-is, w.in-Skipped.is) (AreKnown-skipped g.L.KeepsLines.lines (map (solved_by g.L.KeepsLines.lines) c.loop-solved.yielded) c.loop-solved.known c.loop-solved.known c.in-Some.solved.cube c.loop-solved.invariant _)
])
