use Rattle.std.proofs.Common.{◌≡◌, ◌≤◌, ℕ, List, ap, sym, ◌∙◌, arith, length, take, All, ◌⊎◌, inl, inr}
use Rattle.std.proofs.lemmas.List.{length-take-le, length-map}
use Rattle.std.proofs.lemmas.List.Elements.{All-take}
use Rattle.theory.specs.Literals.{Clause}
use Rattle.theory.specs.Truth.{IsOver}
use Rattle.theory.specs.Trails.{cube_trail}
use Rattle.theory.proofs.trails.TrailEntries.{IsLawful-cube}
use Rattle.theory.proofs.trails.TrailLists.{literals-cube}
use Rattle.theory.proofs.searching.OpenTrails.{current_level-cube_trail}
use Rattle.kernel.specs.EntryLists.{entries_of}
use Rattle.kernel.specs.Visiting.{kept_of}
use Rattle.kernel.specs.Attaching.{IsWatching}
use Rattle.kernel.proofs.Beginning.{begun}
use Rattle.kernel.proofs.search_kernel.SearchKernel.restart.Goals as goal

pub cut-requires-clause-watching : goal.cut-requires-clause-watching
cut-requires-clause-watching c = (c.self.inside.trail.vars, c.self.inside.trail.entries, c.self.inside.served, c.self.inside.floor, rw c.deref.ensures.value (c.self.invariant.3 c.if-self.false))

pub cut-requires-clause-over : goal.cut-requires-clause-over
cut-requires-clause-over c = (c.self.inside.trail.vars, c.self.invariant.1, sym (length-map c.self.inside.propagator.lists entries_of) ∙ (c.self.invariant.3 c.if-self.false).lists)

-- what is left of the clauses where memory was refused
left : (V first : ℕ) (K new : List Clause) → All (IsOver V) K → first ≤ length K → (new ≡ K) ⊎ (new ≡ take first K) → All (IsOver V) new × (first ≤ length new)
left V first K new over within (inl e) = rw e (over, within)
left V first K new over within (inr e) = rw e (All-take (IsOver V) first K over, (let z : first ≤ length (take first K) = omega (arith, length-take-le first K within) in z))

pub invariant_of-self : goal.invariant_of-self
invariant_of-self c =
    let r = left c.self.inside.trail.vars c.self.inside.first c.self.inside.propagator.clauses.given c.cut.new.self.clauses.given c.self.invariant.1 c.self.invariant.2 c.in-Err.ensures.refused in
    (rw c.clear.ensures.entries tt, rw c.clear.ensures.vars r.0, r.1, λ h. absurd (cc), λ h. absurd (cc))

pub invariant_of-self-2 : goal.invariant_of-self-2
invariant_of-self-2 c =
    let entries : c.put_cube.new.trail.entries ≡ cube_trail c.args.cube.now = c.put_cube.ensures.entries ∙ ap cube_trail c.lits.ensures.lits in
    let vars : c.put_cube.new.trail.vars ≡ c.self.inside.trail.vars = c.put_cube.ensures.vars ∙ c.clear.ensures.vars in
    let V = c.self.inside.trail.vars in
    let K = c.self.inside.propagator.clauses.given in
    let first = c.self.inside.first in (
      rw entries (IsLawful-cube _ _ c.lits.ensures.cube),
      rw (vars, c.in_default.ensures.clauses) (All-take (IsOver V) _ _ c.self.invariant.1),
      rw (c.in_default.ensures.clauses, length-take-le _ _ c.self.invariant.2) (omega arith),
      λ h.
          let was : IsWatching V first K c.self.inside.trail.entries c.self.inside.served c.self.inside.floor (kept_of c.self.inside.propagator) c.deref.result.now c.self.inside.empty = rw c.deref.ensures.value (c.self.invariant.3 h) in
          let s = c.in_default.ensures.watching V c.self.inside.served c.self.inside.floor c.self.inside.trail.entries was in
          rw (vars, entries, ← c.deref.ensures.value)
          (begun 18446744073709551615 V first c.cut.new.self.clauses.given (cube_trail c.args.cube.now) (kept_of c.cut.new.self) c.deref.result.now c.self.inside.empty (current_level-cube_trail c.args.cube.now) s),
      c.self.invariant.4,
    )

pub returns-clause-lawful : goal.returns-clause-lawful
returns-clause-lawful c =
    let entries : c.put_cube.new.trail.entries ≡ cube_trail c.args.cube.now = c.put_cube.ensures.entries ∙ ap cube_trail c.lits.ensures.lits in
    rw entries (IsLawful-cube _ _ c.lits.ensures.cube)

pub returns-clause-over : goal.returns-clause-over
returns-clause-over c =
    let asked = (rw (← c.self.view_is) at c.requires) c.if-self.false in
    let entries : c.put_cube.new.trail.entries ≡ cube_trail c.args.cube.now = c.put_cube.ensures.entries ∙ ap cube_trail c.lits.ensures.lits in
    let vars : c.put_cube.new.trail.vars ≡ c.self.inside.trail.vars = c.put_cube.ensures.vars ∙ c.clear.ensures.vars in
    rw (entries, literals-cube c.args.cube.now, vars) asked
