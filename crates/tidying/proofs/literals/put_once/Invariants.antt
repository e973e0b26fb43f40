use Rattle.std.proofs.Common.{◌≡◌, take}
use Rattle.tidying.proofs.OnceLemmas.{IsOnce}
use Rattle.tidying.proofs.literals.put_once.Given as goal

-- the literals so far are held true, and have come once each
abbrev pub invariant-loop-lit : goal.invariant-loop-lit
invariant-loop-lit l = record {
  once : IsOnce (take l.lit-index l.clause) l.held.literals l.literals.items;
  vars : l.held.vars ≡ l.fn.held.vars;
}
