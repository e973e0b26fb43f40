use Rattle.std.proofs.Common.{◌↔◌, drop}
use Rattle.packs.specs.Forgotten.{AreClear}
use Rattle.packs.proofs.replay.forgotten.Forgotten.is_clear.Given as goal

-- the numbers that are left give the answer
abbrev pub invariant-loop-number : goal.invariant-loop-number
invariant-loop-number l = AreClear l.self.first l.self.marks.items (drop l.number-index l.numbers) ↔ AreClear l.self.first l.self.marks.items l.numbers
