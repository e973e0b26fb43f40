use Rattle.theory.proofs.simplifying.Resolvents.{resolvent-addable}
use Rattle.theory.proofs.simplified.resolvents_replay.Goals as goal

pub returns : goal.returns
returns c = resolvent-addable
