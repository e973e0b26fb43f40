use Rattle.std.proofs.Common.{◌≡◌, ℕ, ◌≤◌, ◌<◌, length}
use Rattle.pool.specs.Hands.{HandView}
use Rattle.pool.specs.Closing.{HasNumberFrom, AreAtNumbers, IsAmong}
use Rattle.pool.proofs.closing.by_number.Given as goal

abbrev pub invariant-sorted : goal.invariant-sorted
invariant-sorted l = (length l.sorted.items ≡ l.number) × AreAtNumbers l.initial.hands.items l.sorted.items
    × ((k : ℕ) → l.number ≤ k → k < length l.initial.hands.items → HasNumberFrom l.hands.items 0 k)
    × ((h : HandView) → IsAmong l.hands.items h → IsAmong l.initial.hands.items h)
