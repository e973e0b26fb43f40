use Rattle.std.proofs.Common.{◌∙◌, ◌++◌, ◌∷◌, [], List, ap, sym}
use Rattle.theory.specs.Literals.{Clause}
use Rattle.session.proofs.LoadedLemmas.{take-next}
use Rattle.strategies.proofs.lowering.question.add_clauses.Goals as goal

pub loop-place-preserved : goal.loop-place-preserved
loop-place-preserved c =
    c.in_ok-add_clause.ensures.added ∙ ap (λ (K : List Clause). K ++ c.clause.result.now ∷ []) c.loop-place.invariant ∙ sym (take-next c.args.formula.now.clauses c.loop-place.place c.clause.result.now c.clause.ensures.clause)
