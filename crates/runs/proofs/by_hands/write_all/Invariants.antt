use Rattle.std.proofs.Common.{ℕ, List, All, take, drop}
use Rattle.runs.specs.Parts.{AreMade, IsIdle}
use Rattle.runs.proofs.PartLemmas.{AreLeft}
use Rattle.runs.proofs.by_hands.write_all.Given as goal

-- the texts of so many parts are written
abbrev pub invariant-loop-part : goal.invariant-loop-part
invariant-loop-part g l = record {
  idle : All IsIdle (take l.part-index l.parts);
  written : (texts : List (List ℕ)) → AreMade texts l.fn.parts → AreLeft (g.W.Write.contents l.fn.writer) (g.W.Write.contents l.writer) texts (drop l.part-index l.parts);
}
