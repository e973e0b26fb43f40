use Rattle.std.proofs.Common.{refl}
use Rattle.theory.specs.Beginnings.{begun, lines_before}
use Rattle.theory.proofs.checker.AcceptedProofs.{AreBefore-checks}
use Rattle.theory.specs.Simplifying.{simplified}
use Rattle.theory.proofs.simplifying.AcceptedSimplifications.{checker_of, simplification-leads, length-kept_clauses, clause_at-kept_clauses, checks-continued}
use Rattle.theory.proofs.trees.BegunSearches.{AreBefore-begun}
use Rattle.theory.proofs.simplified.simplification_is_accepted.Goals as goal

pub returns : goal.returns
returns c = record {
  accepted = λ F cs h. let lines = simplification-leads F cs h in (checker_of (simplified F cs) lines.empty, refl, refl, λ rest. lines.leads.0 1 rest);
  continued = λ F cs rest fit h named. checks-continued F cs rest fit h (λ n a d. named n a d.0 d.1);
  before = λ s F b h. (let lines = AreBefore-begun s F b h in (lines.state, lines.last, lines.input, λ rest. AreBefore-checks F (begun F b).clauses (lines_before F b) rest lines));
  length = length-kept_clauses;
  kept = clause_at-kept_clauses;
}
