use Rattle.std.proofs.Common.{arith}
use Rattle.std.proofs.lemmas.Result.{err_from_is_err_and}
use Rattle.cnf.specs.Limits.{limits_of}
use Rattle.cnf.proofs.ReadLemmas.{refusal-Reads}
use Rattle.cnf.proofs.read.read_formula_within.Goals as goal

pub returns-in_err-header : goal.returns-in_err-header
returns-in_err-header c =
    let p = err_from_is_err_and c.from_residual.result c.from_residual.ensures.1 in
    rw (p.1, p.2) (refusal-Reads (limits_of c.args.limits) c.args.bytes.now _ (omega (arith, c.if-bytes.false, c.bytes.ensures.is)) c.in_err-header.ensures)
