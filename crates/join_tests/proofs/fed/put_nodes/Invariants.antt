use Rattle.std.proofs.Common.{◌≡◌, [], map}
use Rattle.std.specs.Vec.Iter.{into_iter_items, into_iter_len}
use Rattle.cubes.specs.Result.{node_of}
use Rattle.join.specs.Numbered.{AreNodes}
use Rattle.join.specs.Walking.{joined, IsJoining}
use Rattle.join_tests.proofs.fed.put_nodes.Given as goal

-- no line is left of the nodes so far
abbrev pub invariant-nodes : goal.invariant-nodes
invariant-nodes l = record {
  lawful : IsJoining l.joiner;
  given : (joined l.joiner).steps ≡ [];
  nodes : AreNodes l.joiner.clauses (map node_of (into_iter_items l.nodes));
}

abbrev pub decreases-nodes : goal.decreases-nodes
decreases-nodes l = into_iter_len l.nodes
