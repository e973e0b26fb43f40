use Rattle.kernel.specs.Keeping.{AreSinglesTo}
use Rattle.kernel.proofs.propagator.Propagator.note_singles.Given as goal

abbrev pub invariant-loop-index : goal.invariant-loop-index
invariant-loop-index l = AreSinglesTo l.self.clauses.pairs l.first l.index l.initial.singles.items l.singles.items
