use Rattle.std.proofs.Common.{sym, subst}
use Rattle.lrat_text.specs.Runs.{IsLiteralAt}
use Rattle.lrat_text.proofs.RunLemmas.{negative-literal}
use Rattle.lrat_text.proofs.run.negative_literal.Goals as goal

pub returns-in-Some : goal.returns-in-Some
returns-in-Some c =
    subst (λ l. IsLiteralAt c.args.bytes.now c.args.start l c.in-Some.end) (sym c.of.ensures)
    (negative-literal c.args.bytes.now c.args.start c.in-Some.size c.in-Some.end c.requires.inside c.requires.sign c.in-Some.ensures c.if-size-le-MAX_LITERAL.true)
