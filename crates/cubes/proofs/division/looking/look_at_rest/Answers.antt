use Rattle.std.proofs.Common.{◌∙◌, ap, refl}
use Rattle.theory.specs.Search.{model, values}
use Rattle.kernel.specs.State.{State}
use Rattle.cubes.proofs.DividingLemmas.{splits-none, splits-some, chosen-some}
use Rattle.cubes.proofs.division.looking.look_at_rest.Goals as goal

pub returns-in_ok-values-in-None-clause-splits : goal.returns-in_ok-values-in-None-clause-splits
returns-in_ok-values-in-None-clause-splits c F vars clauses =
    let k = c.args.search.now.kernel in
    let none = rw c.in-None.is at c.in_ok-choose.ensures.none in
    splits-none F k.trail _ (rw (vars, clauses) at (none.0 refl))
    (ap model c.in_ok-values-in-None.ensures ∙ (ap (λ (x : State). model (values x.vars x.trail)) c.in_ok-choose.ensures.kept ∙ ap (λ V. model (values V k.trail)) vars))

pub returns-in-Some-clause-splits : goal.returns-in-Some-clause-splits
returns-in-Some-clause-splits c F vars clauses =
    let k = c.args.search.now.kernel in
    let none = rw c.in-Some.is at c.in_ok-choose.ensures.none in
    splits-some F k.trail c.in-Some.var _ (λ all. (let clash = none.1 (rw (vars, clauses) all) in absurd (cc))) refl (chosen-some F k.vars k.clauses k.trail _ c.in-Some.var c.in-Some.is vars clauses c.in_ok-choose.ensures.chooses)
