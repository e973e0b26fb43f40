use Rattle.std.proofs.Common.{◌≡◌, ◌+◌, ◌||◌, Bool, drop, length, ap, sym, subst, ◌∙◌}
use Rattle.theory.specs.Literals.{IsVariable, has, positive}
use Rattle.theory.specs.Truth.{value}
use Rattle.theory.specs.Pure.{occurs}
use Rattle.cnf.proofs.ClauseLemmas.{occurs-from, or-behind}
use Rattle.cnf.proofs.pure.mark_clauses.Goals as goal

pub loop-place-preserved : goal.loop-place-preserved
loop-place-preserved c =
    let cs = c.args.formula.now.clauses in
    let i = c.loop-place.place in
    let long : length c.mark_clause.new.seen ≡ length c.loop-place.seen = c.mark_clause.auto.seen in (
      long ∙ c.loop-place.invariant.0,
      λ v is.
          let here : IsVariable (length c.loop-place.seen) v = subst (λ n. IsVariable n v) long is in
          or-behind (value c.loop-place.seen v) (has c.clause.result.now (positive v)) (occurs (drop (i + 1) cs) (positive v)) (value c.mark_clause.new.seen v) (c.mark_clause.ensures v here)
          ∙ ap (λ (r : Bool). value c.loop-place.seen v || r) (sym (occurs-from cs i c.clause.result.now (positive v) c.clause.ensures.clause))
          ∙ c.loop-place.invariant.1 v here,
    )
