use Rattle.std.proofs.Common.{◌≡◌, ◌-◌, ◌<◌, ◌≤◌, ◌++◌, All, map, length, take, drop}
use Rattle.theory.specs.Texts.{proof_text}
use Rattle.join.specs.Walking.{lines_left, IsBetweenNodes}
use Rattle.runs.specs.Parts.{text_of, whole, IsGiven, IsIdle}
use Rattle.runs.proofs.by_hands.hand_out.Given as goal

-- so many parts have the first lines
abbrev pub invariant-loop-part : goal.invariant-loop-part
invariant-loop-part l = record {
  lines : IsBetweenNodes l.lines;
  given : All IsGiven (take l.part-index l.parts);
  idle : All IsIdle (drop l.part-index l.parts);
  text : proof_text (lines_left l.fn.lines) ≡ whole (map text_of (take l.part-index l.parts)) ++ proof_text (lines_left l.lines);
  fewer : 0 < l.part-index → length l.lines.nodes.items ≤ length l.fn.lines.nodes.items - 1;
  no_more : length l.lines.nodes.items ≤ length l.fn.lines.nodes.items;
}
