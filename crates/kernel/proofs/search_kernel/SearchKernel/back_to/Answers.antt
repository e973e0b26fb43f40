use Rattle.std.proofs.Common.{ap, map}
use Rattle.theory.proofs.trails.LawfulTrails.{IsLawful-up_to}
use Rattle.kernel.specs.EntryLists.{entries_of}
use Rattle.kernel.specs.Visiting.{kept_of}
use Rattle.kernel.proofs.KernelSteps.{back-watching}
use Rattle.kernel.proofs.search_kernel.SearchKernel.back_to.Goals as goal

pub invariant_of-self : goal.invariant_of-self
invariant_of-self c =
    let asked = (rw (← c.self.view_is) at c.requires) c.if-self.false in
    let k = c.clear_pending.ensures.kept in
    let K = c.self.inside.propagator.clauses.given in
    let V = c.self.inside.trail.vars in
    let T = c.self.inside.trail.entries in (
      rw (k.0, c.back_to.ensures.entries) (IsLawful-up_to K T c.args.level c.self.invariant.0),
      rw (k.0, c.back_to.ensures.vars) c.self.invariant.1,
      rw k.0 c.self.invariant.2,
      λ h. rw (k.0, c.back_to.ensures.vars, c.min-self-inside.ensures, c.entries.ensures.entries, c.back_to.ensures.entries)
          (back-watching V c.self.inside.first K T c.self.inside.served c.self.inside.floor c.args.level (kept_of c.self.inside.propagator) (kept_of c.clear_pending.new.self) c.self.inside.singles.items c.self.inside.empty asked
          k.1 (ap (λ v. map entries_of v) k.2) c.clear_pending.ensures.cleared.0 c.clear_pending.ensures.cleared.1 (c.self.invariant.3 h)),
      c.self.invariant.4,
    )
