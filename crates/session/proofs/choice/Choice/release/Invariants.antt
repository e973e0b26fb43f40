use Rattle.std.proofs.Common.{◌≤◌, length}
use Rattle.session.specs.Choosing.{HasChoice}
use Rattle.session.proofs.choice.Choice.release.Given as goal

abbrev pub invariant-loop-count : goal.invariant-loop-count
invariant-loop-count l = record {
  within : l.count ≤ length l.kernel.trail;
  choice : HasChoice l.kernel.vars l.self;
}

abbrev pub decreases-loop-count : goal.decreases-loop-count
decreases-loop-count l = l.count
