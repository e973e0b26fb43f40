use Rattle.std.proofs.Common.{◌≡◌, take}
use Rattle.theory.specs.Trails.{literals}
use Rattle.session.proofs.search.known.Given as goal

abbrev pub invariant-loop-entry : goal.invariant-loop-entry
invariant-loop-entry l = l.cube ≡ literals (take l.entry-index l.kernel.trail)
