use Rattle.std.proofs.Common.{◌≡◌}
use Rattle.std.specs.VecDeque.{deque_len}
use Rattle.join.specs.Walking.{IsBetweenLines, lines_left}
use Rattle.join.proofs.proof_lines.Lines.next_line.Given as goal

-- the nodes that came and those that are left give the same
abbrev pub invariant-nodes : goal.invariant-nodes
invariant-nodes l = record {
  lawful : IsBetweenLines l.self;
  rest : lines_left l.self ≡ lines_left l.initial.self;
}

abbrev pub decreases-nodes : goal.decreases-nodes
decreases-nodes l = deque_len l.self.nodes
