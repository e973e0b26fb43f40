use Rattle.std.proofs.Common.{arith}
use Rattle.kernel.specs.Visiting.{kept_of}
use Rattle.kernel.proofs.Keeping.{kept-watching}
use Rattle.kernel.proofs.search_kernel.SearchKernel.keep_learnt.Goals as goal

pub invariant_of-self : goal.invariant_of-self
invariant_of-self c =
    let s = c.self.inside in
    let K = s.propagator.clauses.given in
    let many = c.len-self-inside.ensures.given in (
      c.self.invariant.0,
      c.self.invariant.1,
      omega (arith, many),
      λ h. rw many (kept-watching s.trail.vars s.first s.served s.floor K s.trail.entries (kept_of s.propagator) s.singles.items c.note_singles.new.singles.items s.empty c.self.invariant.2 (c.self.invariant.3 h) c.in-Ok.ensures.noted),
      c.self.invariant.4,
    )
