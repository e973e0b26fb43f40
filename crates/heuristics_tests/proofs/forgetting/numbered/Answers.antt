use Rattle.std.proofs.Common.{◌≡◌, ◌+◌, refl, arith}
use Rattle.heuristics_tests.proofs.Numbered.{AreNumberedBelow-push}
use Rattle.heuristics_tests.proofs.forgetting.numbered.Goals as goal

pub loop-place-preserved : goal.loop-place-preserved
loop-place-preserved c =
    let next : 11 + (c.loop-place.place + 1) ≡ 11 + c.loop-place.place + 1 = omega arith in
    rw (c.in_ok-push.ensures.items, next) (AreNumberedBelow-push (11 + c.loop-place.place) c.loop-place.candidates.items _ refl c.loop-place.invariant)
