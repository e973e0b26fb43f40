use Rattle.std.proofs.Common.{arith, ap, subst, ◌∙◌}
use Rattle.theory.specs.Checking.{refused}
use Rattle.cnf.specs.Limits.{limits_of}
use Rattle.lrat.specs.CheckFaults.{fault_of}
use Rattle.lrat_text.specs.Pieces.{EndsAt, part_of}
use Rattle.lrat.specs.Running.{progress_of, stream_of}
use Rattle.lrat_text.specs.Streams.{checked, verdict}
use Rattle.lrat.proofs.RunningLemmas.{finish-ended, said-at}
use Rattle.lrat.proofs.stream.ProofStream.verdict_within.Goals as goal

pub returns-in-Some-stopped : goal.returns-in-Some-stopped
returns-in-Some-stopped c =
    let s = c.args.self.now in
    let stop = c.in-Some-stopped.stop in (
      refused (fault_of stop.fault) stop.step,
      finish-ended (limits_of c.args.limits) (stream_of s) (omega (arith, c.if-self-proof_bytes.false, c.proof_bytes.ensures.is)) (subst (EndsAt s.text.number (part_of s.text)) c.in_default.is c.fault.ensures)
          ∙ ap (λ o. checked (verdict (progress_of o s.checker))) c.in-Some-stopped.is,
      rw c.at.ensures (said-at stop.fault stop.step),
    )
