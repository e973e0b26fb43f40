use Rattle.std.proofs.Common.{◌≡◌, ◌+◌, ◌≤◌, length}
use Rattle.packs.proofs.PackLemmas.{LeadsTo}
use Rattle.packs.proofs.pack.read_pack.Given as goal

abbrev pub invariant-loop-body : goal.invariant-loop-body
invariant-loop-body l = record {
  leads : LeadsTo l.vars l.bytes l.pack.facts.items l.pack.passed_over l.bodies;
  reader : l.reader ≡ l.vars;
  few : l.pack.passed_over + length l.bodies ≤ length l.bytes;
}

-- each turn takes a body away
abbrev pub decreases-loop-body : goal.decreases-loop-body
decreases-loop-body l = length l.bodies
