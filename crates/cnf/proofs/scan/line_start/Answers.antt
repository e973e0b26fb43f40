use Rattle.std.proofs.Common.{◌≡◌, ◌+◌, ◌-◌, ap, ◌∙◌, arith}
use Rattle.cnf.specs.Tokens.{place_at}
use Rattle.cnf.proofs.LeftTokens.{column-lf, column-first}
use Rattle.cnf.proofs.scan.line_start.Goals as goal

pub returns-else-bytes-at-ne10-clause-first : goal.returns-else-bytes-at-ne10-clause-first
returns-else-bytes-at-ne10-clause-first c =
    ap (λ i. (place_at c.args.bytes.now i).column) (let e : c.loop-at.at ≡ c.loop-at.at - 1 + 1 = omega arith in e)
    ∙ column-lf c.args.bytes.now (c.loop-at.at - 1) (omega arith) c.if-bytes-at-ne10.false

pub returns-after-loop-at-clause-first : goal.returns-after-loop-at-clause-first
returns-after-loop-at-clause-first c =
    ap (λ i. (place_at c.args.bytes.now i).column) (let e : c.loop-at.at ≡ 0 = omega arith in e) ∙ column-first c.args.bytes.now
