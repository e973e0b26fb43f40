use Rattle.theory.proofs.searching.ScoreBounds.{gained-most, scores-most, step-gained, scores-bound, step-stays, step-after}
use Rattle.theory.proofs.scores_stay_within.Goals as goal

pub returns : goal.returns
returns c = record { gained = gained-most; after = scores-most; step_gained = step-gained; bounded = scores-bound; step_stays = step-stays; step_after = step-after }
