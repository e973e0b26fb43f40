use Rattle.packs.specs.Splits.{IsReady}
use Rattle.packs_tests.proofs.splits.first_of.Given as goal

-- it stays open for the formula
abbrev pub invariant-loop-index : goal.invariant-loop-index
invariant-loop-index l = IsReady l.formula l.splits
