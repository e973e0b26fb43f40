use Rattle.std.proofs.Common.{◌≡◌, ◌∙◌, ◌+◌, ◌++◌, ◌∷◌, [], ap, sym, subst}
use Rattle.theory.specs.Truth.{Formula}
use Rattle.theory.specs.Trails.{literals}
use Rattle.session.specs.Loading.{IsPut}
use Rattle.session.proofs.LoadedLemmas.{IsPut-push, IsPut-skip}
use Rattle.session.proofs.renewing.put_added.Goals as goal
use Rattle.session.proofs.renewing.put_added.Goals.{then-not-is_satisfied+in_ok-push, else-not-is_satisfied}

pub loop-place-preserved : goal.loop-place-preserved
loop-place-preserved c =
    let K = c.args.formula.now.clauses in
    let P = literals c.args.kernel.now.trail in
    let D = c.loop-place.clauses in
    let i = c.loop-place.place in
    let clause = c.clause-clause.result.now in
    let at = c.clause-clause.ensures.clause in
    elim c.if-not-is_satisfied.branch [
      | then-not-is_satisfied+in_ok-push w ↦
          let e : c.if-not-is_satisfied.clauses ≡ record D { clauses = D.clauses ++ clause ∷ [] } = w.clauses-is ∙ w.in_ok-push.ensures.pushed in
          record {
            put = subst (λ (f : Formula). IsPut K f.clauses (i + 1) P) (sym e) (IsPut-push K D.clauses i P clause at c.loop-place.invariant.put);
            vars = ap (λ (f : Formula). f.vars) e ∙ c.loop-place.invariant.vars;
          }
      | else-not-is_satisfied w ↦ record {
        put = subst (λ (f : Formula). IsPut K f.clauses (i + 1) P) (sym w.clauses-is) (IsPut-skip K D.clauses i P clause at (c.is_satisfied.ensures w.if-not-is_satisfied.false) c.loop-place.invariant.put);
        vars = ap (λ (f : Formula). f.vars) w.clauses-is ∙ c.loop-place.invariant.vars;
      }
    ]
