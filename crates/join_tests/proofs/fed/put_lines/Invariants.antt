use Rattle.std.proofs.Common.{◌≡◌, length}
use Rattle.join.specs.Walking.{joined, IsJoining}
use Rattle.join_tests.proofs.fed.put_lines.Given as goal

abbrev pub invariant-lines : goal.invariant-lines
invariant-lines l = record {
  lawful : IsJoining l.joiner;
  clauses : l.joiner.clauses ≡ l.initial.joiner.clauses;
}

-- fewer lines are left each time
abbrev pub decreases-lines : goal.decreases-lines
decreases-lines l = length (joined l.joiner).steps
