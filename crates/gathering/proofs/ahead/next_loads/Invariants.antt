use Rattle.std.proofs.Common.{◌≡◌, All, length}
use Rattle.theory.specs.Truth.{Formula}
use Rattle.theory.specs.Plans.{Search, Plan}
use Rattle.packs.specs.Checking.{IsChecking}
use Rattle.gathering.specs.Stored.{AreTrueFacts}
use Rattle.gathering.specs.Ahead.{IsTrueLoad}
use Rattle.gathering.proofs.ahead.next_loads.Given as goal

-- the checkers are in the loads or left, and the loads' facts are the store's
abbrev pub invariant-checkers : goal.invariant-checkers
invariant-checkers g l = record {
  checkers : (search : Search) (F : Formula) → All (IsChecking search F) l.fn.checkers.items → All (IsChecking search F) l.checkers.items × All (λ d. IsChecking search F d.checker) l.loads.items;
  own : (F : Formula) (plan : Plan) → AreTrueFacts g.S.KeepsFacts.facts F plan l.fn.store → All (IsTrueLoad F plan) l.loads.items;
  kept : g.S.KeepsFacts.facts l.store ≡ g.S.KeepsFacts.facts l.fn.store;
}

abbrev pub decreases-checkers : goal.decreases-checkers
decreases-checkers g l = length l.checkers.items
