use Rattle.std.proofs.Common.{◌≡◌}
use Rattle.theory.specs.Plans.{Plan}
use Rattle.gathering.specs.Stored.{Gives}
use Rattle.gathering.proofs.outcomes.StoredOutcomes.stored.Given as goal

-- the checker and the solver stay the formula's, and the store has the same facts
abbrev pub invariant-facts : goal.invariant-facts
invariant-facts g l = record {
  gives : (plan : Plan) → Gives l.formula plan l.fn.self → Gives l.formula plan l.self;
  kept : g.S.KeepsFacts.facts l.self.store ≡ g.S.KeepsFacts.facts l.fn.self.store;
}

abbrev pub decreases-facts : goal.decreases-facts
decreases-facts g l = l.left
