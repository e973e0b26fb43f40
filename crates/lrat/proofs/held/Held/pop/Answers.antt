use Rattle.std.proofs.Common.{reverse, subst, ap, ◌∙◌}
use Rattle.lrat.specs.Held.{IsTable}
use Rattle.lrat.proofs.HeldLemmas.{reverse-push, IsTable-pop}
use Rattle.lrat.proofs.held.Held.pop.Goals as goal

pub invariant_of-self-2 : goal.invariant_of-self-2
invariant_of-self-2 c =
    let e = ap reverse c.in_ok-lit.ensures.items ∙ reverse-push c.pop.new.self.items c.in_ok-lit.lit in
    IsTable-pop c.self.inside.vars (reverse c.pop.new.self.items) c.in_ok-lit.lit c.self.inside.values.items c.var.result c.var.ensures.var (subst (λ P. IsTable c.self.inside.vars P c.self.inside.values.items) e c.self.invariant)
