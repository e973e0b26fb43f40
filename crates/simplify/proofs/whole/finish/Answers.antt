use Rattle.std.proofs.Common.{ap, sym, subst}
use Rattle.theory.specs.Truth.{Formula}
use Rattle.simplify.specs.Extending.{AreOver}
use Rattle.simplify.specs.Tried.{State}
use Rattle.simplify.proofs.whole.finish.Goals as goal

pub invariant_of-result : goal.invariant_of-result
invariant_of-result c =
    let over = subst (λ (a : State). AreOver a.vars a.eliminated) (sym c.trial.view_is) c.requires.over in
    rw (ap (λ (f : Formula). f.vars) c.in_ok-left.ensures) over
