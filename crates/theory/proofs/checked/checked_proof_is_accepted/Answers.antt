use Rattle.theory.specs.Beginnings.{proof}
use Rattle.theory.proofs.checker.Soundness.{accepted-unsatisfiable}
use Rattle.theory.proofs.trees.BegunSearches.{checks-begun, begun-ends_empty}
use Rattle.theory.proofs.checked.checked_proof_is_accepted.Goals as goal

pub returns : goal.returns
returns c = record {
  accepted = checks-begun;
  empty = begun-ends_empty;
  unsatisfiable = λ search F b t h k none. accepted-unsatisfiable F (proof F b t) (checks-begun search F b t h k none);
}
