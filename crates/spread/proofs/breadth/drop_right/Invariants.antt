use Rattle.std.proofs.Common.{◌≡◌, ◌≤◌, List, ◌++◌, All, length}
use Rattle.std.specs.VecDeque.{deque_len}
use Rattle.theory.specs.Literals.{Literal}
use Rattle.spread.proofs.breadth.drop_right.Given as goal

-- some cubes, none of them longer, are gone from the front
abbrev pub invariant-cubes : goal.invariant-cubes
invariant-cubes l = (gone : List (List Literal)) × (l.initial.queue.items ≡ gone ++ l.queue.items) × All (λ (Q : List Literal). length Q ≤ l.count) gone

abbrev pub decreases-cubes : goal.decreases-cubes
decreases-cubes l = deque_len l.queue
