use Rattle.std.proofs.Common.{All, length}
use Rattle.theory.specs.Texts.{proof_text}
use Rattle.join.specs.Walking.{lines_left, IsBetweenNodes}
use Rattle.runs.specs.Parts.{IsIdle}
use Rattle.runs.specs.Written.{IsOnItsWay}
use Rattle.runs.proofs.by_hands.write_by_hands.Given as goal

-- the lines so far are written
abbrev pub invariant-rounds : goal.invariant-rounds
invariant-rounds g l = record {
  lines : IsBetweenNodes l.lines;
  parts : All IsIdle l.parts;
  way : IsOnItsWay (g.W.Write.contents l.fn.writer) (g.W.Write.contents l.writer) (proof_text (lines_left l.lines)) (proof_text (lines_left l.fn.lines));
}

abbrev pub decreases-rounds : goal.decreases-rounds
decreases-rounds g l = length l.lines.nodes.items
