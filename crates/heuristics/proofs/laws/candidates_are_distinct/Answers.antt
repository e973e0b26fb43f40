use Rattle.heuristics.proofs.LateLemmas.{candidates-distinct}
use Rattle.heuristics.proofs.laws.candidates_are_distinct.Goals as goal

pub returns : goal.returns
returns c = candidates-distinct
