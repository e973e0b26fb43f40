use Rattle.std.proofs.Common.{ap, sym, arith}
use Rattle.theory.specs.Trails.{Trail}
use Rattle.cdcl.proofs.TrailFronts.{up_to-high}
use Rattle.cdcl.proofs.search.learning.back_to.Goals as goal

pub returns-else-level : goal.returns-else-level
returns-else-level c =
    let k = c.args.kernel.now in
    let whole = up_to-high k.clauses k.trail c.args.level c.trail-trail.ensures.lawful (let is = c.level.ensures in let low = c.if-level.false in omega arith) in
    ap (λ (T : Trail). record k { trail = T }) (sym whole)
