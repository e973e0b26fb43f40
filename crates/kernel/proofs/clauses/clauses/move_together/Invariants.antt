use Rattle.kernel.specs.Forgetting.{names}
use Rattle.kernel.proofs.Together.{IsTogether}
use Rattle.kernel.proofs.clauses.clauses.move_together.Given as goal

abbrev pub invariant-loop-index : goal.invariant-loop-index
invariant-loop-index l = record {
  together : IsTogether (names l.named) l.initial.lits l.initial.ends l.lits l.ends l.index l.start l.to;
}
