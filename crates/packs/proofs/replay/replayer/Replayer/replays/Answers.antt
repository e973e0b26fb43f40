use Rattle.std.proofs.Common.{◌∙◌, [], refl, ap, sym, subst, arith}
use Rattle.theory.specs.Truth.{IsOver}
use Rattle.lrat.proofs.HeldLemmas.{Extends-nothing}
use Rattle.packs.specs.Opened.{Opened}
use Rattle.packs.proofs.replay.replayer.Replayer.replays.Goals as goal

pub invariant_of-self : goal.invariant_of-self
invariant_of-self c = (
  c.go_back.ensures.left [] refl (Extends-nothing _),
  c.clear.ensures,
  subst (λ V. IsOver V c.self.inside.units.items) (sym (c.go_back.ensures.vars ∙ c.refute-answer.ensures.vars)) c.self.invariant.2,
  let same = c.go_back.ensures.vars ∙ c.refute-answer.ensures.vars in let few = c.self.invariant.3 in omega (arith, same, few),
)

pub refute-answer-requires-clause-few : goal.refute-answer-requires-clause-few
refute-answer-requires-clause-few c =
    let vars = ap (λ (o : Opened). o.vars) c.self.view_is ∙ c.requires in
    let few = c.self.invariant.3 in
    rw c.deref.ensures.value (omega (arith, vars, few))
