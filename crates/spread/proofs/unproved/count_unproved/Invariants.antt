use Rattle.theory.specs.Plans.{Search}
use Rattle.packs.specs.Checking.{IsChecking}
use Rattle.spread.proofs.unproved.count_unproved.Given as goal

-- the checker stays the formula's
abbrev pub invariant-cubes : goal.invariant-cubes
invariant-cubes g l = (search : Search) → IsChecking search l.formula l.fn.checker → IsChecking search l.formula l.checker
