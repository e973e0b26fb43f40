use Rattle.std.proofs.Common.{◌≡◌, ◌≤◌, [], All, length}
use Rattle.join.specs.Joining.{bare, climb}
use Rattle.join.specs.Numbered.{IsHalf}
use Rattle.join.proofs.joiner.climb.Given as goal

-- the rest of the way leads to where the whole way does
abbrev pub invariant-splits : goal.invariant-splits
invariant-splits l = record {
  low : 2 ≤ l.next;
  from : l.initial.next ≤ l.next;
  splits : All (IsHalf l.next) l.place;
  rest : bare (climb l.initial.place l.initial.next []) ≡ bare (climb l.place l.next []);
}

abbrev pub decreases-splits : goal.decreases-splits
decreases-splits l = length l.place
