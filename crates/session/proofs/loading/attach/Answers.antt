use Rattle.std.proofs.Common.{◌∙◌, ◌-◌, ap, length, sym, subst, take}
use Rattle.theory.specs.Literals.{negations}
use Rattle.theory.specs.Truth.{IsOver}
use Rattle.theory.specs.Trails.{Trail, cube_trail}
use Rattle.theory.specs.Learnable.{IsLearnable}
use Rattle.kernel.specs.State.{State}
use Rattle.session.proofs.GatheredLemmas.{over-but_last, IsLearnable-but_last}
use Rattle.session.proofs.loading.attach.Goals as goal

pub restart-requires : goal.restart-requires
restart-requires c memory =
    let lits = c.args.lits.now in
    let V = c.args.kernel.now.vars in
    subst (IsOver c.keep_learnt.new.self.vars) (sym c.in_ok-cube.ensures)
    (subst (λ v. IsOver v (negations (take (length lits - 1) lits))) (sym (ap (λ (k : State). k.vars) c.in_ok-keep_learnt.ensures.kept)) (over-but_last V lits (length lits - 1) c.requires.over))

pub learn-requires : goal.learn-requires
learn-requires c memory =
    let lits = c.args.lits.now in
    let vars = ap (λ (k : State). k.vars) c.in_ok-restart.ensures.ok ∙ ap (λ (k : State). k.vars) c.in_ok-keep_learnt.ensures.kept in (
      subst (λ v. IsOver v lits) (sym vars) c.requires.over,
      subst (λ (T : Trail). IsLearnable T lits) (sym (ap (λ (k : State). k.trail) c.in_ok-restart.ensures.ok ∙ ap cube_trail c.in_ok-cube.ensures)) (IsLearnable-but_last lits c.requires.some c.requires.distinct),
    )
