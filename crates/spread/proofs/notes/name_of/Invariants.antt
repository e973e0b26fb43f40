use Rattle.std.proofs.Common.{◌≡◌, ◌++◌, map, take, codes, string_bytes}
use Rattle.spread.specs.Models.{sign}
use Rattle.spread.proofs.notes.name_of.Given as goal

-- the signs so far
abbrev pub invariant-loop-lit : goal.invariant-loop-lit
invariant-loop-lit l = string_bytes l.name ≡ codes "m" ++ map sign (take l.lit-index l.cube)
