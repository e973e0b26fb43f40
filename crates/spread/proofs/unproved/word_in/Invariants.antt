use Rattle.theory.specs.Plans.{Search}
use Rattle.packs.specs.Checking.{IsChecking}
use Rattle.spread.proofs.unproved.word_in.Given as goal

-- the checker stays the formula's
abbrev pub invariant-facts : goal.invariant-facts
invariant-facts g l = (search : Search) → IsChecking search l.formula l.fn.checker → IsChecking search l.formula l.checker

abbrev pub decreases-facts : goal.decreases-facts
decreases-facts g l = l.left
