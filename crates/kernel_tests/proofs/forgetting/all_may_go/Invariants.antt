use Rattle.std.proofs.Common.{◌≡◌, ◌<◌, ◌≤◌, false, All, length, take}
use Rattle.theory.specs.Forgetting.{is_reason}
use Rattle.kernel_tests.proofs.forgetting.all_may_go.Given as goal

abbrev pub invariant-loop-number : goal.invariant-loop-number
invariant-loop-number l = All (λ n. (l.kernel.first < n) × (n ≤ length l.kernel.clauses) × (is_reason l.kernel.trail n ≡ false)) (take l.number-index l.numbers)
