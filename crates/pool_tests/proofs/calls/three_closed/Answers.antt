use Rattle.pool_tests.proofs.Homecoming.{all_new}
use Rattle.pool_tests.proofs.calls.three_closed.Goals as goal

pub close-requires : goal.close-requires
close-requires c = all_new _ _ _ c.in_ok-pool.ensures.hands
