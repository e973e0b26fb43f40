use Rattle.packs.specs.Checking.{IsChecking}
use Rattle.spread.proofs.unproved.doubtful_of.Given as goal

-- the checker is the formula's and the plan's
abbrev pub invariant-cubes : goal.invariant-cubes
invariant-cubes g l = IsChecking l.fn.plan.search l.formula l.checker
