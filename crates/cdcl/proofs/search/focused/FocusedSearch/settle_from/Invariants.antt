use Rattle.cdcl.specs.Units.{IsSettling}
use Rattle.cdcl.proofs.search.focused.FocusedSearch.settle_from.Given as goal

-- the entries before the place are units
abbrev pub invariant-loop-place : goal.invariant-loop-place
invariant-loop-place l = IsSettling l.initial.self l.place l.self
