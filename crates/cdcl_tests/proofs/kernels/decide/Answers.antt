use Rattle.theory.proofs.searching.PropagationLemmas.{Propagates-rests}
use Rattle.cdcl_tests.proofs.kernels.decide.Goals as goal

pub decide-requires : goal.decide-requires
decide-requires c short =
    let free = c.in-Some.ensures in (free.0, free.1, Propagates-rests _ _ _ _ (rw (c.in-Quiet.is, ← c.close.ensures.kept.1, ← c.close.ensures.kept.3) at c.in_ok-close.ensures.ok))
