use Rattle.theory.proofs.searching.PropagationLemmas.{Propagates-rests}
use Rattle.kernel_tests.proofs.as_given.decide.Goals as goal

pub decide-requires : goal.decide-requires
decide-requires c short =
    let free = c.in-Some.ensures in (free.0, free.1, Propagates-rests _ _ _ _ (rw (c.in-Quiet.is, ← c.in_ok-close.ensures.kept.1, ← c.in_ok-close.ensures.kept.3) at c.in_ok-close.ensures.ok))
