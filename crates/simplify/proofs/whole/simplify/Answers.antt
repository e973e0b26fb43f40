use Rattle.std.proofs.Common.{◌≡◌, ap, sym, subst, ◌*◌, List, arith}
use Rattle.theory.specs.Simplifying.{Change}
use Rattle.theory.specs.Trying.{IsSimplification}
use Rattle.simplify.specs.Made.{Made, IsMadeBy}
use Rattle.simplify.specs.Left.{left_clauses}
use Rattle.simplify.specs.Tried.{State, IsReady}
use Rattle.simplify.specs.Following.{IsFinished}
use Rattle.simplify.proofs.FirstStates.{ready-first}
use Rattle.simplify.proofs.MadeFormulas.{finished-made, finished-over}
use Rattle.simplify.proofs.OnResults.{if_ok}
use Rattle.simplify.proofs.whole.simplify.Goals as goal

pub run-requires : goal.run-requires
run-requires g c = (subst IsReady (sym c.in_ok-trial.ensures) (ready-first c.args.formula.now), (let few = c.in_ok-most.ensures.few in omega arith))

pub finish-requires-clause-vars : goal.finish-requires-clause-vars
finish-requires-clause-vars g c =
    let most = 100 * c.in_ok-most.field-0 in
    let finished = subst (λ (a : State). IsFinished most a c.run.new.self) c.in_ok-trial.ensures c.in_ok-run.ensures in
    (c.requires, (finished-over c.args.formula.now most c.run.new.self c.vars-vars.ensures.within.formula finished).1)

pub finish-requires-clause-over : goal.finish-requires-clause-over
finish-requires-clause-over g c =
    let most = 100 * c.in_ok-most.field-0 in
    let finished = subst (λ (a : State). IsFinished most a c.run.new.self) c.in_ok-trial.ensures c.in_ok-run.ensures in
    (finished-over c.args.formula.now most c.run.new.self c.vars-vars.ensures.within.formula finished).0

pub returns : goal.returns
returns g c =
    let F = c.args.formula.now in
    let b = c.run.new.self in
    let most = 100 * c.in_ok-most.field-0 in
    let finished = subst (λ (a : State). IsFinished most a b) c.in_ok-trial.ensures c.in_ok-run.ensures in
    let made = finished-made F most b c.vars-vars.ensures.within.formula (ap (λ k. 100 * k) c.in_ok-most.ensures.count) finished in
    if_ok (λ (m : Made). m ≡ record { formula = record { vars = b.vars; clauses = left_clauses F b.entries }; lines = b.lines; eliminated = b.eliminated })
    (λ (m : Made). (cs : List Change) × IsSimplification F cs × IsMadeBy F cs m)
    c.finish.result
    (λ m e. subst (λ (k : Made). (cs : List Change) × IsSimplification F cs × IsMadeBy F cs k) (sym e) made)
    c.finish.ensures
