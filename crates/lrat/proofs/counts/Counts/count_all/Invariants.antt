use Rattle.std.proofs.Common.{◌+◌, ◌*◌, ◌-◌, ◌≤◌, length, vec_len}
use Rattle.lrat.specs.Indexed.{AreCounted}
use Rattle.lrat.proofs.counts.Counts.count_all.Given as goal

-- the slots so far are counted
abbrev pub invariant-loop-self : goal.invariant-loop-self
invariant-loop-self l = record {
  counted : AreCounted l.clauses.slots l.self;
  room : 2 * l.clauses.vars + 2 ≤ vec_len l.self.counts;
}

abbrev pub decreases-loop-self : goal.decreases-loop-self
decreases-loop-self l = length l.clauses.slots - l.self.counted
