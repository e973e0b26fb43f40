use Rattle.std.proofs.Common.{◌≤◌, vec_len}
use Rattle.lrat.specs.Chained.{head_at, AreChains, LeadsThere, KeepsThere}
use Rattle.lrat.proofs.SweepLemmas.{IsSwept}
use Rattle.lrat.proofs.chains.Chains.sweep.Given as goal

-- places of clauses that are there were kept, and those before the link are such
abbrev pub invariant-loop-link : goal.invariant-loop-link
invariant-loop-link l = record {
  within : l.link ≤ vec_len l.self.entries;
  chains : AreChains l.self;
  there : LeadsThere l.clauses.slots l.self.entries.items l.link;
  swept : IsSwept l.clauses.slots l.self.entries.items (head_at l.self.heads.items l.code) l.link;
  keeps : KeepsThere l.clauses.slots l.fn.self l.self;
}

abbrev pub decreases-loop-link : goal.decreases-loop-link
decreases-loop-link l = l.link
