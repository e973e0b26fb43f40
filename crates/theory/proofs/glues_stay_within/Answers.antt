use Rattle.theory.proofs.searching.GlueBounds.{glue-most, current_level-most, recent-few, recent-most, total-most}
use Rattle.theory.proofs.glues_stay_within.Goals as goal

pub returns : goal.returns
returns c = record { glue = glue-most; level = current_level-most; few = recent-few; recent = recent-most; total = total-most }
