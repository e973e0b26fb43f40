use Rattle.theory.proofs.trees.Divisions.{Runs-undivided, Runs-divided, Runs-searched, IsWritten-undivided}
use Rattle.theory.proofs.undivided_is_searched.Goals as goal

pub returns : goal.returns
returns c = record {
  outcome = λ F plan Q o whole. (Runs-undivided F plan Q o whole, Runs-divided F plan Q o whole);
  searched = Runs-searched;
  texts = IsWritten-undivided;
}
