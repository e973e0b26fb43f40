use Rattle.std.proofs.Common.{◌+◌, ◌*◌, ◌-◌, ◌≤◌, length, vec_len}
use Rattle.lrat.specs.Indexed.{IsIndexed}
use Rattle.lrat.proofs.occurrences.Occurrences.enter_all.Given as goal

-- the slots so far are entered
abbrev pub invariant-loop-self : goal.invariant-loop-self
invariant-loop-self l = record {
  indexed : IsIndexed l.clauses.slots l.self;
  room : 2 * l.clauses.vars + 2 ≤ vec_len l.self.chains.heads;
}

abbrev pub decreases-loop-self : goal.decreases-loop-self
decreases-loop-self l = length l.clauses.slots - l.self.entered
