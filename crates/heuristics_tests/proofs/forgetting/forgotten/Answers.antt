use Rattle.heuristics_tests.proofs.forgetting.forgotten.Goals as goal

pub late_ones-requires : goal.late_ones-requires
late_ones-requires c = rw c.deref.ensures.value c.in_ok-candidates.ensures.distinct
