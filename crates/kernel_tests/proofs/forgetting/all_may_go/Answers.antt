use Rattle.std.proofs.Common.{◌≡◌, ◌<◌, ◌≤◌, false, All, length, subst}
use Rattle.std.proofs.lemmas.List.{take_all}
use Rattle.theory.specs.Forgetting.{is_reason}
use Rattle.kernel_tests.proofs.OpenStates.{all-more}
use Rattle.kernel_tests.proofs.forgetting.all_may_go.Goals as goal

pub loop-number-preserved : goal.loop-number-preserved
loop-number-preserved c =
    let k = c.args.kernel.now in
    all-more (λ n. (k.first < n) × (n ≤ length k.clauses) × (is_reason k.trail n ≡ false)) c.args.numbers.now c.loop-number.number-index c.loop-number-test.true c.loop-number.invariant (c.may_go.ensures c.if-not-may_go.false)

pub returns : goal.returns
returns c is =
    let k = c.args.kernel.now in
    subst (All (λ n. (k.first < n) × (n ≤ length k.clauses) × (is_reason k.trail n ≡ false))) (take_all c.loop-number.number-index c.args.numbers.now c.loop-number-test.false) c.loop-number.invariant
