use Rattle.std.proofs.Common.{length-append, arith}
use Rattle.std.proofs.lemmas.List.Elements.{All-push}
use Rattle.theory.specs.Truth.{IsOver}
use Rattle.theory.proofs.trails.LawfulTrails.{IsLawful-append}
use Rattle.kernel.proofs.search_kernel.SearchKernel.learn.Goals as goal

pub invariant_of-self : goal.invariant_of-self
invariant_of-self c =
    let asked = (rw (← c.self.view_is) at c.requires) c.if-self.false in
    let e = c.in-Ok.ensures in (
      rw e.clauses (IsLawful-append _ _ _ c.self.invariant.0),
      rw e.clauses (All-push (IsOver c.self.inside.trail.vars) _ _ c.self.invariant.1 asked.0),
      rw (e.clauses, length-append) (omega (arith, c.self.invariant.2)),
      λ h. e.watching c.self.inside.first c.self.inside.served c.self.inside.floor c.self.inside.singles.items c.self.inside.empty c.self.invariant.2 (c.self.invariant.3 h),
      c.self.invariant.4,
    )
