use Rattle.std.proofs.Common.{◌≡◌, arith}
use Rattle.theory.specs.Trails.{current_level}
use Rattle.kernel_tests.proofs.Learning.{IsOver-one, IsLearnable-one}
use Rattle.kernel_tests.proofs.acts.learn_unit.Goals as goal

pub learn-requires : goal.learn-requires
learn-requires c short =
    let free = c.is_free.ensures c.if-not-is_free.false in
    let level = c.level.ensures in
    let none : current_level c.args.kernel.now.trail ≡ 0 = omega arith in
    (IsOver-one _ c.in-Some.lit free.0, IsLearnable-one _ c.in-Some.lit free.1 none)
