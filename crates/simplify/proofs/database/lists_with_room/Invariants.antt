use Rattle.std.proofs.Common.{◌≡◌, [], map, take}
use Rattle.simplify.proofs.database.lists_with_room.Given as goal

-- one for each number so far
abbrev pub invariant-loop-room : goal.invariant-loop-room
invariant-loop-room l = l.lists.items ≡ map (λ n. []) (take l.room-index l.counts)
