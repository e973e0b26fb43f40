use Rattle.theory.specs.Truth.{value}
use Rattle.theory.proofs.searching.ReplayedLines.{AreRefutation-refutes}
use Rattle.theory.proofs.trees.TreeSoundness.{checked-unsatisfiable}
use Rattle.theory.proofs.checked.checked_tree_has_no_model.Goals as goal

pub returns : goal.returns
returns c = record {
  lines = λ V N Q K lines m. AreRefutation-refutes m V N Q K lines;
  tree = λ F Q t M h none s. checked-unsatisfiable (value M) F Q t h none s.clauses;
}
