use Rattle.theory.proofs.trails.LawfulTrails.{Propagates-conflict}
use Rattle.cdcl_tests.proofs.kernels.learnt.Goals as goal

pub analyze-requires : goal.analyze-requires
analyze-requires c = Propagates-conflict _ _ _ _ _ (rw (c.in-Conflict.is, ← c.close.ensures.kept.1) at c.in_ok-number.ensures.ok)
