use Rattle.theory.proofs.trees.BegunSearches.{begun-by_hints, Begins-without_units}
use Rattle.theory.proofs.begun.lines_pass_by_hints.Goals as goal

pub returns : goal.returns
returns c = record { rup = begun-by_hints; others = Begins-without_units }
