use Rattle.std.proofs.Common.{ap, ◌∙◌, ◌++◌, map}
use Rattle.theory.specs.Literals.{Literal}
use Rattle.simplify.proofs.TouchedVariables.{vars-next}
use Rattle.simplify.proofs.touched.list_variables.Goals as goal

pub loop-number-preserved : goal.loop-number-preserved
loop-number-preserved c =
    c.in_ok-put_variables.ensures
    ∙ (ap (λ vs. vs ++ map (λ (l : Literal). l.var) c.clause.result.now) c.loop-number.invariant
    ∙ vars-next c.args.database.now.entries c.args.numbers.now c.loop-number.number-index c.clause.result.now c.loop-number-test.true c.clause.ensures.clause)
