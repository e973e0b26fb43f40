use Rattle.std.proofs.Common.{take}
use Rattle.packs.specs.Packs.{IsPackOf}
use Rattle.spread.proofs.pack_file.bodies_of.Given as goal

-- the bytes are those of the facts so far
abbrev pub invariant-loop-fact : goal.invariant-loop-fact
invariant-loop-fact l = IsPackOf l.bytes.items (take l.fact-index l.facts)
