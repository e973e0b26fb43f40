use Rattle.theory.specs.Simplifying.{extended_model}
use Rattle.theory.proofs.simplifying.SimplifiedModels.{are_true-kept_clauses, IsFormula-simplified, Satisfies-extended_model, Satisfies-simplified}
use Rattle.theory.proofs.simplified.simplified_models_extend.Goals as goal

pub returns : goal.returns
returns c = record {
  kept = are_true-kept_clauses;
  formula = IsFormula-simplified;
  model = Satisfies-extended_model;
  satisfiable = λ F s formed h. ((λ f. (f.0, Satisfies-simplified F s f.0 h f.1)), (λ g. (extended_model F.vars s.eliminated g.0, Satisfies-extended_model F s g.0 formed h g.1)));
}
