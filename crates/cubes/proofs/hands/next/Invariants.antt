use Rattle.std.specs.Prelude.{◌≡◌, ◌<◌, ◌≤◌, ◌-◌}
use Rattle.pool.specs.Hands.{IsAllTaken}
use Rattle.cubes.proofs.hands.next.Given as goal

-- nothing was got yet, and the own deque was tried before any other
abbrev pub invariant-deques : goal.invariant-deques
invariant-deques l = record {
  hand : l.hand ≡ l.initial.hand;
  first : l.hand ≡ l.fn.hand;
  within : l.tries ≤ l.hand.hands;
  own : 0 < l.tries → IsAllTaken l.hand;
}

-- fewer deques are left to be tried
abbrev pub decreases-deques : goal.decreases-deques
decreases-deques l = l.hand.hands - l.tries
