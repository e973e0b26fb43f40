use Rattle.theory.proofs.trees.Divisions.{Runs-unsimplifying, Runs-simplifying, IsWritten-unsimplifying}
use Rattle.theory.proofs.solved_soon_is_unsimplified.Goals as goal

pub returns : goal.returns
returns c = record { outcome = λ F plan Q o. (Runs-unsimplifying F plan Q o, Runs-simplifying F plan Q o); texts = IsWritten-unsimplifying }
