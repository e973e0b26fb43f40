use Rattle.std.proofs.Common.{◌≡◌, ◌++◌, map}
use Rattle.std.specs.VecDeque.{deque_len}
use Rattle.cubes.specs.Result.{node_of}
use Rattle.join.specs.Joining.{bare, on_nodes}
use Rattle.join.specs.Numbered.{AreNodes}
use Rattle.join.specs.Walking.{joined, IsStanding}
use Rattle.join.proofs.proof_lines.Lines.pass_nodes.Given as goal

-- the joiner is where the nodes that were passed lead
abbrev pub invariant-nodes : goal.invariant-nodes
invariant-nodes l = record {
  standing : IsStanding l.self.joiner;
  clauses : l.self.joiner.clauses ≡ l.initial.self.joiner.clauses;
  nodes : AreNodes l.self.joiner.clauses (map node_of l.self.nodes.items);
  passed : l.initial.self.nodes.items ≡ l.passed.items ++ l.self.nodes.items;
  joined : joined l.self.joiner ≡ bare (on_nodes l.initial.self.joiner.clauses (joined l.initial.self.joiner) (map node_of l.passed.items));
}

abbrev pub decreases-nodes : goal.decreases-nodes
decreases-nodes l = deque_len l.self.nodes
