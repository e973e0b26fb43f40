use Rattle.heuristics.proofs.WaitingOnes.{best_outside-waiting, best_outside-nobody}
use Rattle.heuristics.proofs.laws.best_waiting_is_best.Goals as goal

pub returns-clause-some : goal.returns-clause-some
returns-clause-some c = best_outside-waiting

pub returns-clause-none : goal.returns-clause-none
returns-clause-none c = best_outside-nobody
