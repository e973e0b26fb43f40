use Rattle.std.proofs.Common.{◌≡◌, ◌+◌, ◌-◌, ◌≤◌, vec_len}
use Rattle.theory.specs.ProofReading.{max_proof_bytes}
use Rattle.cnf.specs.Limits.{limits_of}
use Rattle.lrat.specs.Running.{IsRunning, stream_of, vars_of}
use Rattle.runs.specs.Streamed.{FeedsOn}
use Rattle.runs.proofs.proof_input.feed_all.Given as goal

-- the check was fed with what the reader gave
abbrev pub invariant-loop-read : goal.invariant-loop-read
invariant-loop-read g l = record {
  feeds : FeedsOn (g.P.Read.remaining l.fn.proof) (g.P.Read.remaining l.proof) (vars_of l.fn.stream) (stream_of l.fn.stream) (stream_of l.stream) l.read;
  running : IsRunning l.stream;
  vars : vars_of l.stream ≡ vars_of l.fn.stream;
  within : l.read ≤ max_proof_bytes (limits_of l.fn.limits) + 1;
  room : vec_len l.chunk ≡ 65536;
}

abbrev pub decreases-loop-read : goal.decreases-loop-read
decreases-loop-read g l = max_proof_bytes (limits_of l.fn.limits) + 1 - l.read
