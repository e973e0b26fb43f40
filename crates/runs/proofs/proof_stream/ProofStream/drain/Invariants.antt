use Rattle.std.proofs.Common.{◌≡◌, length}
use Rattle.join.specs.Walking.{joined, IsJoining}
use Rattle.runs.specs.Stored.{IsMaking}
use Rattle.runs.proofs.proof_stream.ProofStream.drain.Given as goal

-- some lines were made, and their text is written or stands in the buffer
abbrev pub invariant-lines : goal.invariant-lines
invariant-lines g l = record {
  making : IsMaking (g.W.Write.contents l.fn.writer) (g.W.Write.contents l.writer) (joined l.fn.self.joiner) l.fn.self.buffer.items l.self;
  clauses : l.self.joiner.clauses ≡ l.fn.self.joiner.clauses;
  lawful : IsJoining l.self.joiner;
}

abbrev pub decreases-lines : goal.decreases-lines
decreases-lines g l = length (joined l.self.joiner).steps
