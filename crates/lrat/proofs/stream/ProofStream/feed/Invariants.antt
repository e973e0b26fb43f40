use Rattle.std.proofs.Common.{◌≡◌, ◌≤◌, ◌+◌, ◌-◌, length, drop}
use Rattle.lrat_text.specs.Pieces.{IsText, stream_at}
use Rattle.lrat.specs.Running.{IsReadyUnless, progress_of, stream_of, vars_of}
use Rattle.lrat_text.specs.Streams.{feed}
use Rattle.lrat.proofs.stream.ProofStream.feed.Given as goal

-- the bytes that are left lead to the same
abbrev pub invariant-loop-at : goal.invariant-loop-at
invariant-loop-at l = record {
  left : feed (vars_of l.fn.self) (stream_at (l.fn.self.seen + l.at) (progress_of l.self.stopped l.self.checker) l.self.text) (drop l.at l.piece) ≡ feed (vars_of l.fn.self) (stream_of l.fn.self) l.piece;
  text : IsText l.self.text;
  ready : IsReadyUnless l.self.stopped l.self.checker;
  few : l.self.text.number ≤ l.fn.self.seen + l.at + 1;
  within : l.at ≤ length l.piece;
  vars : vars_of l.self ≡ vars_of l.fn.self;
  seen : l.self.seen ≡ l.fn.self.seen;
}

abbrev pub decreases-loop-at : goal.decreases-loop-at
decreases-loop-at l = length l.piece - l.at
