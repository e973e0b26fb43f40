use Rattle.theory.specs.Truth.{value}
use Rattle.theory.specs.Trees.{model_of}
use Rattle.theory.proofs.searching.AgreeingModels.{least-agree}
use Rattle.theory.proofs.trees.ResultLemmas.{leaf-found, IsCheckedResult-says}
use Rattle.theory.proofs.checked.checked_leaf_is_found.Goals as goal

pub returns : goal.returns
returns c = record {
  below = λ F Q x u M N s one below m p n q. least-agree F Q x (value M) (value N) s m.clauses p n.clauses q u one below;
  cube = leaf-found;
  formula = λ search F M h. IsCheckedResult-says search F (model_of M) h;
}
