use Rattle.std.proofs.Common.{◌≡◌, false, take}
use Rattle.theory.specs.Forgetting.{is_reason}
use Rattle.kernel_tests.proofs.forgetting.is_reason.Given as goal

abbrev pub invariant-loop-entry : goal.invariant-loop-entry
invariant-loop-entry l = is_reason (take l.entry-index l.trail) l.number ≡ false
