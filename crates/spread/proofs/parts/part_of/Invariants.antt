use Rattle.std.proofs.Common.{◌≡◌, length}
use Rattle.spread.specs.Parts.{part_at, of_part}
use Rattle.spread.proofs.parts.part_of.Given as goal

-- the part whose turn it is, and those of its cubes that came so far
abbrev pub invariant-cubes : goal.invariant-cubes
invariant-cubes l = (l.part ≡ part_at l.parts (length l.yielded)) × (l.way.items ≡ of_part l.number l.parts 0 l.yielded)
