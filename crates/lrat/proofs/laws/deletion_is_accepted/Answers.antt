use Rattle.theory.proofs.checker.DeletionsPutIn.{checks-deletion}
use Rattle.lrat.proofs.laws.deletion_is_accepted.Goals as goal

pub returns : goal.returns
returns c = checks-deletion
