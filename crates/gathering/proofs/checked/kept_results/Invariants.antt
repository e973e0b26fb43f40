use Rattle.theory.specs.Plans.{Search}
use Rattle.packs.specs.Checking.{IsChecking}
use Rattle.gathering.specs.Kept.{Keeps}
use Rattle.gathering.proofs.checked.kept_results.Given as goal

-- the results of the facts so far
abbrev pub invariant-loop-fact : goal.invariant-loop-fact
invariant-loop-fact l = record {
  keeps : (search : Search) → IsChecking search l.formula l.fn.checker → Keeps search l.formula l.yielded l.results.items;
  checking : (search : Search) → IsChecking search l.formula l.fn.checker → IsChecking search l.formula l.checker;
}
