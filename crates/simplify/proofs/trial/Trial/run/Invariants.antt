use Rattle.simplify.specs.Tried.{IsReady}
use Rattle.simplify.specs.Following.{IsUnderWay}
use Rattle.simplify.proofs.trial.Trial.run.Given as goal

-- the tries so far follow the definition
abbrev pub invariant-loop-count : goal.invariant-loop-count
invariant-loop-count g l = record {
  follows : IsUnderWay l.most l.fn.self l.self;
  ready : IsReady l.self;
}
