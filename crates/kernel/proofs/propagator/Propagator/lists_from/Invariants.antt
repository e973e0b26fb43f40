use Rattle.std.proofs.Common.{◌<◌, length, All}
use Rattle.kernel.proofs.Cutting.{AreCodesUpTo}
use Rattle.kernel.proofs.propagator.Propagator.lists_from.Given as goal

abbrev pub invariant-loop-index : goal.invariant-loop-index
invariant-loop-index l = record {
  codes : AreCodesUpTo l.first l.index l.self.clauses.pairs l.codes.items;
  within : All (λ n. n < length l.self.lists) l.codes.items;
}
