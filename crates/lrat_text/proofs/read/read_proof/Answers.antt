use Rattle.std.proofs.Common.{◌≤◌, arith, map, length}
use Rattle.std.proofs.lemmas.Result.{err_from_is_err_and}
use Rattle.theory.specs.Reading.{standard}
use Rattle.theory.specs.ProofReading.{max_proof_bytes}
use Rattle.lrat_text.specs.Steps.{step_of}
use Rattle.lrat_text.proofs.ReadSteps.{steps-more, steps-all, fault-found}
use Rattle.lrat_text.proofs.read.read_proof.Goals as goal

pub returns : goal.returns
returns c =
    let g = c.loop-at.invariant in
    let short : length c.args.bytes.now ≤ max_proof_bytes standard = c.if-bytes-gt-MAX_BYTES.false in
    steps-all c.args.bytes.now c.loop-at.steps.items c.loop-at.number c.loop-at.at short (omega arith) g.left

pub loop-at-preserved : goal.loop-at-preserved
loop-at-preserved c =
    let g = c.loop-at.invariant in
    let f = c.in_ok-step.ensures.forward in
    record {
      inside = f.1;
      lines = (let l = g.lines in let k = f.0 in omega arith);
      left = rw c.in_ok-push.ensures.items (steps-more c.loop-at.steps.items c.in_ok-step.step _ _ _ c.in_ok-step.ensures.read g.left);
    }

pub returns-in_err-step : goal.returns-in_err-step
returns-in_err-step c =
    let g = c.loop-at.invariant in
    let short : length c.args.bytes.now ≤ max_proof_bytes standard = c.if-bytes-gt-MAX_BYTES.false in
    let p = err_from_is_err_and c.from_residual.result c.from_residual.ensures.1 in
    rw (p.1, p.2) (fault-found c.args.bytes.now (map step_of c.loop-at.steps.items) c.in_err-step.field-0.0 _ short g.left c.in_err-step.ensures.read)
