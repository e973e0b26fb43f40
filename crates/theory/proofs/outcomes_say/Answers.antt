use Rattle.theory.proofs.searching.OutcomeLemmas.{Runs-says}
use Rattle.theory.proofs.outcomes_say.Goals as goal

pub returns : goal.returns
returns c = Runs-says
