use Rattle.std.proofs.Common.{◌≡◌, false}
use Rattle.theory.specs.Trails.{literals}
use Rattle.theory.specs.Forgetting.{is_reason}
use Rattle.theory.proofs.searching.ForgettingNumbers.{length-forget, IsLawful-forget}
use Rattle.kernel.proofs.LeftClauses.{among-all, over-forgotten}
use Rattle.kernel.proofs.search_kernel.SearchKernel.forget.Goals as goal

pub invariant_of-self : goal.invariant_of-self
invariant_of-self c =
    let e = c.in-Ok.ensures in
    let k = c.self.inside in
    let K = k.propagator.clauses.given in
    let T = k.trail.entries in
    let numbers = c.args.numbers.now in
    let learnt = (rw (← c.self.view_is) at c.requires.learnt) c.if-self.false in
    let no_reasons = (rw (← c.self.view_is) at c.requires.no_reasons) c.if-self.false in
    let none = (rw (← c.self.view_is) at c.requires.open) c.if-self.false in (
      rw e.clauses (IsLawful-forget numbers K T (among-all (λ n. is_reason T n ≡ false) numbers no_reasons) c.self.invariant.0),
      rw e.clauses (over-forgotten k.trail.vars k.first (literals T) numbers K c.self.invariant.1 none learnt),
      rw (e.clauses, length-forget) c.self.invariant.2,
      λ h. e.watching k.trail.vars k.served k.floor T k.singles.items k.empty none (c.self.invariant.3 h),
      c.self.invariant.4,
    )
