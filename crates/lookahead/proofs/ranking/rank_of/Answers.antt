use Rattle.std.proofs.Common.{◌+◌, ◌*◌, ◌∙◌, ap, ap₂}
use Rattle.theory.specs.Literals.{positive, negative}
use Rattle.cnf.specs.Lits.{code}
use Rattle.lookahead.specs.Tables.{at}
use Rattle.lookahead.proofs.ranking.rank_of.Goals as goal

pub returns : goal.returns
returns c K V counted within =
    let first = c.from.ensures ∙ (ap (at c.args.counts.now) (c.code.ensures ∙ ap code c.of.ensures) ∙ counted (positive c.args.var) within) in
    let second = c.from-2.ensures ∙ (ap (at c.args.counts.now) (c.code-2.ensures ∙ ap code c.of-2.ensures) ∙ counted (negative c.args.var) within) in
    ap₂ (λ a b. (a + 1) * (b + 1)) first second
