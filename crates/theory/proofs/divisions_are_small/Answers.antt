use Rattle.theory.proofs.trees.Divisions.{cubes_at-few, IsLookedAt-small, IsLookedAt-half}
use Rattle.theory.proofs.divisions_are_small.Goals as goal

pub returns : goal.returns
returns c = record { looked = IsLookedAt-small; searched = IsLookedAt-half; few = cubes_at-few }
