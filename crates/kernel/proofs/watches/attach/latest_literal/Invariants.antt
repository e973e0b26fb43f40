use Rattle.std.proofs.Common.{take}
use Rattle.kernel.proofs.WatchChoice.{IsLatest}
use Rattle.kernel.proofs.watches.attach.latest_literal.Given as goal

abbrev pub invariant-loop-lit : goal.invariant-loop-lit
invariant-loop-lit l = IsLatest l.trail.entries l.clause (take l.lit-index l.clause) l.free l.latest
