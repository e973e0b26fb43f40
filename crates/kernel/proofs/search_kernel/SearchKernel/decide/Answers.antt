use Rattle.std.proofs.Common.{◌≡◌, ◌+◌, ◌<◌, ◌≤◌, ℕ, length, None, arith, ap, ◌⊎◌, inl, inr}
use Rattle.theory.specs.Trails.{current_level}
use Rattle.kernel.proofs.Levels.{current_level-length, IsLawful-decision}
use Rattle.kernel.specs.Visiting.{kept_of}
use Rattle.kernel.specs.Rules.{rule_of}
use Rattle.kernel.proofs.KernelSteps.{decide-watching, IsRule-of}
use Rattle.trail.proofs.Ordered.{length-free}
use Rattle.kernel.proofs.search_kernel.SearchKernel.decide.Goals as goal

pub overflow_add-level : goal.overflow_add-level
overflow_add-level c =
    let asked = (rw (← c.self.view_is) at c.requires) c.if-self.false in
    let level = c.level-level.ensures.level in
    let small = c.level-level.ensures.small in
    let most = current_level-length _ _ c.self.invariant.0 in
    let less : length c.self.inside.trail.entries < c.self.inside.trail.vars = length-free _ _ (record { lit = c.args.lit; reason = None; level = current_level c.self.inside.trail.entries }) c.level-level.ensures.ordered asked.0 asked.1 (omega arith) in
    omega arith

which : (n at floor low : ℕ) → at ≤ n → ((n ≤ at) × (low ≡ floor)) ⊎ ((low ≤ at) × (low ≤ floor)) → ((at ≡ n) × (low ≡ floor)) ⊎ ((low ≤ at) × (low ≤ floor))
which n at floor low within (inl (h, f)) = inl ((let z : at ≡ n = omega (arith, h, within) in z), f)
which n at floor low within (inr h) = inr h

pub invariant_of-self : goal.invariant_of-self
invariant_of-self c =
    let asked = (rw (← c.self.view_is) at c.requires) c.if-self.false in
    let level = c.level-level.ensures.level in
    let s = c.self.invariant.3 c.if-self.false in (
      rw (c.push.ensures.entries, level) (IsLawful-decision _ _ c.args.lit c.self.invariant.0 asked.1),
      rw c.push.ensures.vars c.self.invariant.1,
      c.self.invariant.2,
      λ h. rw (c.push.ensures.entries, c.push.ensures.vars)
          (decide-watching (rule_of c.self.inside.order) (IsRule-of c.self.inside.order) c.self.inside.trail.vars c.self.inside.first c.self.inside.propagator.clauses.given c.self.inside.trail.entries c.self.inside.served c.self.inside.floor c.floor_of-self-inside.result (kept_of c.self.inside.propagator)
          c.self.inside.singles.items c.self.inside.empty (record { lit = c.args.lit; reason = None; level = c.level-level.result + 1 }) c.level-level.ensures.ordered asked.2 (ap (λ n. n + 1) level)
          (which (length c.self.inside.trail.entries) c.self.inside.served c.self.inside.floor c.floor_of-self-inside.result s.within (rw (← c.entries.ensures.entries) c.floor_of-self-inside.ensures)) s),
      c.self.invariant.4,
    )
