use Rattle.theory.proofs.searching.PropagationLemmas.{Propagates-rests}
use Rattle.kernel_tests.proofs.acts.decide.Goals as goal

pub decide-requires : goal.decide-requires
decide-requires c short = let free = c.is_free.ensures c.if-not-is_free.false in (free.0, free.1, Propagates-rests _ _ _ _ (rw (c.in-Quiet.is, ← c.in_ok-close.ensures.kept.1, ← c.in_ok-close.ensures.kept.3) at c.in_ok-close.ensures.ok))
