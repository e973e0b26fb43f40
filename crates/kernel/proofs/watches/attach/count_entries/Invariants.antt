use Rattle.std.proofs.Common.{◌≡◌, length}
use Rattle.kernel.proofs.watches.attach.count_entries.Given as goal

abbrev pub invariant-loop-lit : goal.invariant-loop-lit
invariant-loop-lit l = length l.counts ≡ length l.fn.counts
