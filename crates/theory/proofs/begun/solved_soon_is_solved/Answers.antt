use Rattle.theory.proofs.searching.MoreConflicts.{soon-decided}
use Rattle.theory.proofs.begun.solved_soon_is_solved.Goals as goal

pub returns : goal.returns
returns c = soon-decided
