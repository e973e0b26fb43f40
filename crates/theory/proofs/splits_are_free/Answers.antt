use Rattle.theory.proofs.searching.OutcomeLemmas.{Runs-exhausted, Runs-splits}
use Rattle.theory.proofs.splits_are_free.Goals as goal

pub returns : goal.returns
returns c = record { free = Runs-exhausted; held = Runs-splits }
