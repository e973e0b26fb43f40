use Rattle.std.proofs.Common.{◌≡◌, ap, sym, subst, ◌∙◌, arith}
use Rattle.theory.specs.Truth.{IsOver}
use Rattle.lrat.specs.Held.{Held}
use Rattle.packs.proofs.replay.replayer.Replayer.open.Goals as goal

pub invariant_of-result : goal.invariant_of-result
invariant_of-result c =
    let vars : c.in_ok-new.field-0.vars ≡ c.args.formula.now.vars = ap (λ (h : Held). h.vars) c.in_ok-new.ensures ∙ c.vars.ensures.vars in (
      ap (λ (h : Held). h.literals) c.in_ok-new.ensures,
      c.new-2.ensures,
      subst (λ V. IsOver V c.args.units.items) (sym vars) c.requires.over,
      let few = c.requires.few in omega (arith, few, vars),
    )
