use Rattle.std.proofs.Common.{◌≡◌, All}
use Rattle.theory.specs.Truth.{Formula}
use Rattle.theory.specs.Plans.{Plan}
use Rattle.gathering.specs.Facts.{IsTrueFact}
use Rattle.gathering.specs.Stored.{AreTrueFacts}
use Rattle.gathering.proofs.ahead.facts_from.Given as goal

-- the facts so far are the store's, which has the same facts
abbrev pub invariant-loop-number : goal.invariant-loop-number
invariant-loop-number g l = record {
  own : (F : Formula) (plan : Plan) → AreTrueFacts g.S.KeepsFacts.facts F plan l.fn.store → All (IsTrueFact F plan) l.facts.items;
  kept : g.S.KeepsFacts.facts l.store ≡ g.S.KeepsFacts.facts l.fn.store;
}
