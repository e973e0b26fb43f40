use Rattle.std.proofs.Common.{◌≡◌, [], take, filter}
use Rattle.simplify.proofs.UnitPlaces.{is_unit_at}
use Rattle.simplify.proofs.sides.unit_place.Given as goal

-- none of those so far is a unit clause
abbrev pub invariant-loop-place : goal.invariant-loop-place
invariant-loop-place l = filter (is_unit_at l.fn.lit l.database.entries) (take l.place l.numbers) ≡ []
