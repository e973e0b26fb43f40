use Rattle.theory.proofs.searching.UnitWalks.{units-settled, literals-units, current_level-units, clauses-units, conflict-units, rests-units, IsSearchOf-units}
use Rattle.theory.specs.Propagation.{by_place}
use Rattle.theory.proofs.searching.Rules.{IsRule-by_place}
use Rattle.theory.proofs.searching.UnitHints.{hints-learn_units}
use Rattle.theory.proofs.searching.TrueSearches.{are_true-units}
use Rattle.theory.proofs.units_become_lines.Goals as goal

pub returns : goal.returns
returns c = record {
  kept = λ V K Q C T lines level i. (IsSearchOf-units V K Q C T lines level i).0;
  are_units = λ V K Q C T lines level i. (IsSearchOf-units V K Q C T lines level i).1;
  literals = literals-units;
  level = current_level-units;
  clauses = clauses-units;
  are_true = are_true-units;
  conflict = conflict-units;
  rests = rests-units by_place IsRule-by_place;
  settled = units-settled;
  hints = hints-learn_units;
}
